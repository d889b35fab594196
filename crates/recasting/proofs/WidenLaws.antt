-- A record with blanks in the columns that it does not have: its own elements are as they were, the others are blank. Assumes nothing.
use mathlib.Core.Path.{◌≡◌, refl, sym, ap, ◌∙◌}
use mathlib.Core.Bool.{Bool, true, false}
use mathlib.Core.List.{List, [], ◌∷◌, ◌++◌}
use Prim.Native.Nat.{ℕ, zero, suc, ◌+◌, ◌-◌, ◌<◌, ◌≤◌}
use native.Mathlib.Omega.{arith}
use borrow.Author.Tests.{ne_eqb, leb-true, leb-false}
use lib.Dec.{leb}
use lib.ListN.{length, take, drop, length-append}
use lib.Seq.{take_at, drop-append-add}
use Rattle.text.specs.Bytes.{every, between, blank}
use Rattle.text.proofs.Ways.{and_first, and_second}
use Rattle.numerals.proofs.Spellings.{spelled_length, blanks_blank}
use Rattle.layout.specs.declared.Edition.{Edition}
use Rattle.layout.specs.Editions.{length_of, last_of}
use Rattle.layout.specs.Page.{width_of, start_of, text_of, legal_text, legal}
use Rattle.layout.proofs.Beyond.{last_above, text_none}
use Rattle.layout.proofs.Columns.{start_rises, filled}
use Rattle.layout.proofs.RecordLaws.{most, ends, part_of_front}
use Rattle.checking.specs.Acceptable.{Acceptable}
use Rattle.meanings.specs.Kept.{lost_text, lost_at}
use Rattle.recasting.specs.Recast.{blanks, widened}

-- a part of what passes a test
every_drop : (p : ℕ → Bool) (n : ℕ) (t : List ℕ) → every p t ≡ true → every p (drop n t) ≡ true
unfolding every
every_drop p zero t e = e
every_drop p (suc n) [] e = refl
every_drop p (suc n) (b ∷ t) e = every_drop p n t (and_second (p b) _ e)

every_take : (p : ℕ → Bool) (n : ℕ) (t : List ℕ) → every p t ≡ true → every p (take n t) ≡ true
unfolding every
every_take p zero t e = refl
every_take p (suc n) [] e = refl
every_take p (suc n) (b ∷ t) e = let h : p b ≡ true = and_first _ _ e in rw h (every_take p n t (and_second (p b) _ e))

pub blanks_long : (n : ℕ) → length (blanks n) ≡ n
blanks_long n = spelled_length 1 32 n 0

module _ (ed : Edition) (xs : List ℕ) (full : length xs ≡ length_of ed) where
  pub widened_long : length (widened xs) ≡ 159
  unfolding widened
  widened_long = length-append xs (blanks (159 - length xs)) ∙ ap (λ (n : ℕ). length xs + n) (blanks_long (159 - length xs)) ∙ omega (arith, most ed)

  -- an element of its own
  pub own_kept : (e : ℕ) → e ≤ last_of ed → text_of e (widened xs) ≡ text_of e xs
  unfolding text_of widened
  own_kept e h =
      sym (part_of_front (start_of e) (width_of e) (length xs) (xs ++ blanks (159 - length xs)) (omega (arith, ends ed e h)) (omega (arith, length-append xs (blanks (159 - length xs))))) ∙
      ap (λ (t : List ℕ). take (width_of e) (drop (start_of e) t)) (take_at xs (blanks (159 - length xs)) (length xs) refl)

  -- an element that its edition lacks
  pub others_blank : (e : ℕ) → last_of ed < e → blank (text_of e (widened xs)) ≡ true
  unfolding text_of widened
  others_blank e h =
      let after : length xs ≤ start_of e = omega (arith, filled ed, start_rises (last_of ed + 1) e (omega arith)) in
      let split : start_of e ≡ length xs + (start_of e - length xs) = omega arith in
      let rest : drop (start_of e) (xs ++ blanks (159 - length xs)) ≡ drop (start_of e - length xs) (blanks (159 - length xs)) =
      ap (λ (n : ℕ). drop n (xs ++ blanks (159 - length xs))) split ∙ drop-append-add xs (blanks (159 - length xs)) (start_of e - length xs) in
      ap (λ (t : List ℕ). blank (take (width_of e) t)) rest ∙
      every_take (between 32 32) (width_of e) (drop (start_of e - length xs) (blanks (159 - length xs)))
      (every_drop (between 32 32) (start_of e - length xs) (blanks (159 - length xs)) (blanks_blank (159 - length xs)))

  -- an element is lost from the one exactly where it is lost from the other
  pub same_lost : (to : Edition) (e : ℕ) → lost_at ed to (widened xs) e ≡ lost_at ed to xs e
  unfolding lost_text every
  same_lost to e = by (leb e (last_of ed)) refl
    where
      by : (x : Bool) → leb e (last_of ed) ≡ x → lost_at ed to (widened xs) e ≡ lost_at ed to xs e
      by true h = ap (lost_text ed to e) (own_kept e (leb-true _ _ h))
      by false h = rw (others_blank e (leb-false _ _ h), text_none ed xs full e (leb-false _ _ h))

-- every element of a record with blanks is legal
pub widened_legal : (ed : Edition) (xs : List ℕ) → Acceptable ed xs → (e : ℕ) → 1 ≤ e → e ≤ 101 → legal_text ed e (text_of e (widened xs)) ≡ true
unfolding legal
widened_legal ed xs a e h l = by (leb e (last_of ed)) refl
  where
    by : (x : Bool) → leb e (last_of ed) ≡ x → legal_text ed e (text_of e (widened xs)) ≡ true
    by true k = ap (legal_text ed e) (own_kept ed xs a.full e (leb-true _ _ k)) ∙ a.lawful e h (leb-true _ _ k)
    by false k =
        let past : last_of ed < e = leb-false _ _ k in
        rw (ne_eqb e 1 (λ z. omega (arith, last_above ed)), ne_eqb e 65 (λ z. omega (arith, last_above ed)), others_blank ed xs a.full e past)
