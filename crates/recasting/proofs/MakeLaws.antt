-- The row that is made: the elements lost are blank, columns 12 and 111 are set, and every other element keeps its characters. Assumes nothing.
use Rattle.std.specs.Prelude.{Ok}
use mathlib.Core.Path.{◌≡◌, refl, sym, ap, ◌∙◌}
use mathlib.Core.Bool.{Bool, true, false, cond}
use mathlib.Core.List.{List, [], ◌∷◌}
use mathlib.Core.Logic.{◌⊎◌, inl, inr, ⊎_elim}
use Prim.Native.Nat.{ℕ, ◌+◌, ◌<◌, ◌≤◌}
use native.Mathlib.Nat.{eq-or-lt_of_le}
use native.Mathlib.Omega.{arith}
use borrow.Author.Tests.{eqb-true, eqb-false, leb-true, leb-false}
use lib.Dec.{eqb, leb}
use lib.ListN.{length, take, drop, set, length-set}
use lib.Seq.{length-take-le, take-set-le, drop-set-lt, get_or-set_same}
use Rattle.layout.specs.declared.Edition.{Edition}
use Rattle.layout.specs.declared.Edition.TheVariants.{Four}
use Rattle.layout.specs.Editions.{length_of, last_of}
use Rattle.layout.specs.Page.{page, element, width_of, start_of, text_of, legal_text}
use Rattle.layout.specs.Records.{record_from}
use Rattle.layout.proofs.Beyond.{last_above, text_past, width_past}
use Rattle.layout.proofs.Columns.{start_next, start_rises}
use Rattle.layout.proofs.Elements.{last_below}
use Rattle.layout.proofs.Parts.{one_byte}
use Rattle.layout.proofs.RecordLaws.{most, ends, begins, record_long, record_text, same_record, text_long, part_of_front}
use Rattle.checking.specs.Check.{checked}
use Rattle.checking.specs.Acceptable.{Acceptable}
use Rattle.checking.proofs.Demand2Acceptance.{accepted_exactly}
use Rattle.meanings.specs.Kept.{lost_text, lost_at}
use Rattle.blanking.specs.LostBytes.{blanked_text}
use Rattle.recasting.specs.Recast.{hemisphere, digit_of, blanks, widened, recast_text, recast_record}
use Rattle.recasting.proofs.WidenLaws.{blanks_long, widened_long, same_lost, widened_legal}

-- a text of element e in columns as many as edition 4's
pub wide_text : (xs : List ℕ) → length xs ≡ 159 → (e : ℕ) → length (text_of e xs) ≡ width_of e
wide_text xs full e = by (leb e 101) refl
  where
    by : (x : Bool) → leb e 101 ≡ x → length (text_of e xs) ≡ width_of e
    by true h = text_long Four xs full e (leb-true _ _ h)
    by false h = ap length (sym (text_past xs e (leb-false _ _ h))) ∙ width_past e (leb-false _ _ h)

-- a column outside an element
outside : (xs : List ℕ) (i b e : ℕ) → start_of (e + 1) ≤ length xs → (i < start_of e) ⊎ (start_of (e + 1) ≤ i) → text_of e (set xs i b) ≡ text_of e xs
unfolding text_of
outside xs i b e room = ⊎_elim before behind
  where
    before : i < start_of e → take (width_of e) (drop (start_of e) (set xs i b)) ≡ take (width_of e) (drop (start_of e) xs)
    before k = ap (take (width_of e)) (drop-set-lt (start_of e) xs i b k)

    front : (l : List ℕ) → length l ≡ length xs → take (width_of e) (drop (start_of e) (take (start_of (e + 1)) l)) ≡ take (width_of e) (drop (start_of e) l)
    front l f = part_of_front (start_of e) (width_of e) (start_of (e + 1)) l (omega (arith, start_next e)) (omega (arith, f))

    behind : start_of (e + 1) ≤ i → take (width_of e) (drop (start_of e) (set xs i b)) ≡ take (width_of e) (drop (start_of e) xs)
    behind k = sym (front (set xs i b) (length-set xs i b)) ∙ ap (λ (t : List ℕ). take (width_of e) (drop (start_of e) t)) (take-set-le (start_of (e + 1)) xs i b k) ∙ front xs refl

-- element k has one column, so any other element lies before it or behind it
module _ (k : ℕ) (one : width_of k ≡ 1) where
  side : (e : ℕ) → eqb e k ≡ false → (start_of k < start_of e) ⊎ (start_of (e + 1) ≤ start_of k)
  side e other = by (leb e k) refl
    where
      by : (x : Bool) → leb e k ≡ x → (start_of k < start_of e) ⊎ (start_of (e + 1) ≤ start_of k)
      by true h = ⊎_elim (λ z. absurd (eqb-false e k other z)) (λ l. inr (start_rises (e + 1) k (omega arith))) (eq-or-lt_of_le (leb-true e k h))
      by false h = inl (omega (arith, one, start_next k, start_rises (k + 1) e (omega (arith, leb-false e k h))))

  -- a byte set there is its text, and no other element's
  set_own : (xs : List ℕ) (b : ℕ) → start_of k < length xs → text_of k (set xs (start_of k) b) ≡ b ∷ []
  set_own xs b h = one_byte (set xs (start_of k) b) k one (omega (arith, length-set xs (start_of k) b)) ∙ ap (λ (n : ℕ). n ∷ []) (get_or-set_same xs (start_of k) b 0 h)

  set_other : (xs : List ℕ) (b e : ℕ) → eqb e k ≡ false → start_of (e + 1) ≤ length xs → text_of e (set xs (start_of k) b) ≡ text_of e xs
  set_other xs b e other room = outside xs (start_of k) b e room (side e other)

module _ (from to : Edition) (xs : List ℕ) (full : length xs ≡ length_of from) where
  pub recast_wide : (e : ℕ) → length (recast_text from to xs e) ≡ width_of e
  unfolding recast_text element page
  recast_wide e = by (eqb e 6) (eqb e 65) (lost_at from to xs e) refl refl
    where
      by : (p q x : Bool) → eqb e 6 ≡ p → eqb e 65 ≡ q →
          length (cond p (hemisphere from to xs ∷ []) (cond q (digit_of to ∷ []) (cond x (blanks (width_of e)) (text_of e (widened xs))))) ≡ width_of e
      by true q x f g = sym (ap width_of (eqb-true e 6 f))
      by false true x f g = sym (ap width_of (eqb-true e 65 g))
      by false false true f g = blanks_long (width_of e)
      by false false false f g = wide_text (widened xs) (widened_long from xs full) e

-- the record in the target's columns, blanked and set
module _ (from to : Edition) (xs : List ℕ) (ok : checked xs ≡ Ok from) where
  pub acceptable : Acceptable from xs
  acceptable = (accepted_exactly xs from).0 ok

  own_long : length (widened xs) ≡ 159
  own_long = widened_long from xs acceptable.full

  module _ (row : List ℕ) (is : row ≡ take (length_of to) (widened xs)) where
    row_long : length row ≡ length_of to
    row_long = ap length is ∙ length-take-le (length_of to) (widened xs) (omega (arith, own_long, most to))

    row_text : (e : ℕ) → e ≤ last_of to → text_of e row ≡ text_of e (widened xs)
    unfolding text_of
    row_text e l = ap (λ (t : List ℕ). take (width_of e) (drop (start_of e) t)) is ∙ part_of_front (start_of e) (width_of e) (length_of to) (widened xs) (ends to e l) (omega (arith, own_long, most to))

    pub prepared : (length row ≡ length_of to) × ((e : ℕ) → 1 ≤ e → e ≤ last_of to → legal_text from e (text_of e row) ≡ true)
    prepared = (row_long, λ e h l. ap (legal_text from e) (row_text e l) ∙ widened_legal from xs acceptable e h (omega (arith, last_below to)))

    module _ (after : List ℕ) (same-long : length after ≡ length row) (blanked : (e : ℕ) → 1 ≤ e → e ≤ last_of to → text_of e after ≡ blanked_text from to row e) where
      pub after_long : length after ≡ length_of to
      after_long = same-long ∙ row_long

      module _ (b d : ℕ) (f : b ≡ hemisphere from to xs) (g : d ≡ digit_of to) where
        abbrev once : List ℕ
        once = set after (start_of 6) b

        abbrev made : List ℕ
        made = set once (start_of 65) d

        once_long : length once ≡ length_of to
        once_long = length-set after (start_of 6) b ∙ after_long

        made_long : length made ≡ length_of to
        made_long = length-set once (start_of 65) d ∙ once_long

        -- an element of the target ends within the row
        room : (e : ℕ) → e ≤ last_of to → start_of (e + 1) ≤ length_of to
        room e l = omega (arith, start_next e, ends to e l)

        at_six : text_of 6 made ≡ recast_text from to xs 6
        unfolding element page recast_text
        at_six =
            let l : 6 ≤ last_of to = omega (arith, last_above to) in
            set_other 65 refl once d 6 refl (omega (arith, once_long, room 6 l)) ∙ set_own 6 refl after b (omega (arith, after_long, begins to 6 (omega arith) l)) ∙ ap (λ (n : ℕ). n ∷ []) f

        at_version : text_of 65 made ≡ recast_text from to xs 65
        unfolding element page recast_text
        at_version = set_own 65 refl once d (omega (arith, once_long, begins to 65 (omega arith) (omega (arith, last_above to)))) ∙ ap (λ (n : ℕ). n ∷ []) g

        elsewhere : (e : ℕ) → 1 ≤ e → e ≤ last_of to → eqb e 6 ≡ false → eqb e 65 ≡ false → text_of e made ≡ recast_text from to xs e
        unfolding element page recast_text blanked_text
        elsewhere e h l p q =
            let lost : lost_at from to row e ≡ lost_at from to xs e = ap (lost_text from to e) (row_text e l) ∙ same_lost from xs acceptable.full to e in
            set_other 65 refl once d e q (omega (arith, once_long, room e l)) ∙ set_other 6 refl after b e p (omega (arith, after_long, room e l)) ∙ blanked e h l ∙ rw (p, q, lost, row_text e l)

        pub as_recast : set (set after (start_of 6) b) (start_of 65) d ≡ recast_record from to xs
        unfolding recast_record
        as_recast = same_record to made (record_from to (recast_text from to xs)) same made_long (record_long (recast_text from to xs) (recast_wide from to xs acceptable.full) to)
          where
            same : (e : ℕ) → 1 ≤ e → e ≤ last_of to → text_of e made ≡ text_of e (record_from to (recast_text from to xs))
            same e h l = by (eqb e 6) (eqb e 65) refl refl ∙ sym (record_text (recast_text from to xs) (recast_wide from to xs acceptable.full) to e h l)
              where
                by : (p q : Bool) → eqb e 6 ≡ p → eqb e 65 ≡ q → text_of e made ≡ recast_text from to xs e
                by true q k m = rw (eqb-true e 6 k) at_six
                by false true k m = rw (eqb-true e 65 m) at_version
                by false false k m = elsewhere e h l k m
