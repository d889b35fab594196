-- Demand 3: the loss list is exactly the elements lost, rising; the words, the count and the lowest are those of the list. Elements 1, 6 to 8, 14, 46 and 65 are
-- never lost; to the same edition the result is the record and nothing is lost. Assumes nothing.
use Rattle.std.specs.Prelude.{None, Option, Some}
use mathlib.Core.Path.{◌≡◌, refl, sym, ap, ◌∙◌}
use mathlib.Core.Logic.{◌⊎◌, ◌↔◌, ⊎_elim}
use mathlib.Core.Bool.{Bool, true, false, not, ◌&&◌, ◌||◌, true≢false}
use mathlib.Core.List.{List, [], ◌∷◌}
use Prim.Native.Nat.{ℕ, ◌<◌, ◌≤◌}
use native.Mathlib.Omega.{arith}
use borrow.Author.Tests.{eq-eqb, eqb-true, leb-true, leb-false}
use lib.Dec.{eqb, leb, lit≤}
use lib.ListN.{length}
use Rattle.text.specs.Bytes.{every, blank}
use Rattle.text.specs.LegalTexts.{among, allows}
use Rattle.text.proofs.Among.{either_half, among_cases}
use Rattle.element_sets.specs.ElementSets.{no_elements, set_of, list_of, has_element, count_of, lowest_of, first, Rising}
use Rattle.text.specs.LegalTexts.{member}
use Rattle.element_sets.specs.declared.ElementSet.{ElementSet}
use Rattle.element_sets.proofs.Demand3Losses.{listed_exactly, not_listed, test_is_membership, rising, ones_are_length, lowest_is_head, empty_set, empty_list}
use Rattle.layout.specs.declared.Edition.{Edition}
use Rattle.layout.specs.declared.Edition.TheVariants.{One, Three, Four}
use Rattle.layout.specs.Editions.{edition_of, last_of}
use Rattle.layout.specs.Page.{page, element, text_of, first_byte, legal_texts, may_be_blank, legal_text, legal}
use Rattle.layout.proofs.Beyond.{last_above, text_none}
use Rattle.layout.proofs.Demand2Columns.{column_111}
use Rattle.layout.proofs.Elements.{last_below}
use Rattle.layout.proofs.Parts.{one_byte}
use Rattle.layout.proofs.RecordLaws.{shortest, begins, same_record}
use Rattle.checking.specs.Acceptable.{Acceptable}
use Rattle.checking.proofs.Placed.{first_of_lem}
use Rattle.places.specs.Column12.{crosses}
use Rattle.meanings.specs.Meaning.{sense_of, sense_number}
use Rattle.meanings.specs.Kept.{keeps, lost_text, lost_at}
use Rattle.recasting.specs.Recast.{digit_of, recast_record}
use Rattle.meanings.specs.Lost.{Lost}
use Rattle.recasting.proofs.ResultLaws.{result, result_long, as_it_was}
use Rattle.recasting.proofs.ColumnLaws as Columns
use Rattle.recasting.proofs.NeverLaws as Never
use Rattle.recasting.proofs.Demand3Accepted.{version_text}
use Rattle.recasting.proofs.Demand3Meaning.{lost_exactly}

-- what a list of elements and two words of bits must be to be the losses of a recast
pub record Listed (from to : Edition) (xs : List ℕ) (losses : ElementSet) (list : List ℕ) : Type 0 where
  pub exactly : (e : ℕ) → 1 ≤ e → e ≤ 101 → eqb e 65 ≡ false → (member e list ≡ true) ↔ Lost from to xs e
  pub version : member 65 list ≡ false
  pub others : (e : ℕ) → (e < 1) ⊎ (101 < e) → member e list ≡ false
  pub rises : Rising list
  pub tests : (e : ℕ) → has_element losses e ≡ member e list
  pub counts : count_of losses ≡ length list
  pub lowest : lowest_of losses ≡ first list

module _ (from to : Edition) (xs : List ℕ) (a : Acceptable from xs) where
  pub losses_listed : Listed from to xs (set_of (lost_at from to xs)) (list_of (lost_at from to xs))
  losses_listed = record {
    exactly = λ e h l o.
        let is = listed_exactly (lost_at from to xs) e h l in
        (λ m. (lost_exactly from to xs a e h l o).0 (sym is ∙ m), λ x. is ∙ (lost_exactly from to xs a e h l o).1 x);
    version = listed_exactly (lost_at from to xs) 65 (lit≤ tt) (lit≤ tt) ∙ Never.version from to xs a;
    others = not_listed (lost_at from to xs);
    rises = rising (lost_at from to xs);
    tests = test_is_membership (lost_at from to xs);
    counts = ones_are_length (lost_at from to xs);
    lowest = lowest_is_head (lost_at from to xs);
  }

  pub never_lost : (e : ℕ) → (among 1 6 7 8 e || among 14 46 65 65 e) ≡ true → lost_at from to xs e ≡ false
  never_lost e h =
      ⊎_elim
      (among_cases (Never.Never from to xs a) 1 6 7 8 e (Never.never from to xs a 1 refl) (Never.column_12 from to xs a) (Never.never from to xs a 7 refl) (Never.never from to xs a 8 refl))
      (among_cases (Never.Never from to xs a) 14 46 65 65 e (Never.never from to xs a 14 refl) (Never.never from to xs a 46 refl) (Never.version from to xs a) (Never.version from to xs a))
      (either_half _ _ h)

-- the character that names an edition
abbrev digit_of_named : Option Edition → ℕ
digit_of_named None = 0
digit_of_named (Some ed) = digit_of ed

some : (ed : Edition) → 0 ≡ digit_of ed → ⊥
some One e = omega arith
some Three e = omega arith
some Four e = omega arith

names_digit : (ed : Edition) (b : ℕ) → edition_of b ≡ Some ed → b ≡ digit_of ed
names_digit ed b e = by (eqb b 49) (eqb b 51) (eqb b 52) refl refl refl
  where
    digit : digit_of_named (edition_of b) ≡ digit_of ed
    digit = ap digit_of_named e

    by : (x y z : Bool) → eqb b 49 ≡ x → eqb b 51 ≡ y → eqb b 52 ≡ z → b ≡ digit_of ed
    by true y z p q r = eqb-true b 49 p ∙ (rw p at digit)
    by false true z p q r = eqb-true b 51 q ∙ (rw (p, q) at digit)
    by false false true p q r = eqb-true b 52 r ∙ (rw (p, q, r) at digit)
    by false false false p q r = let none : 0 ≡ digit_of ed = rw (p, q, r) at digit in absurd (some ed none)

-- to the same edition
module _ (ed : Edition) (xs : List ℕ) (a : Acceptable ed xs) where
  -- a text that is legal is kept: it has the sense that it had
  legal_kept : (e : ℕ) (t : List ℕ) → legal_text ed e t ≡ true → lost_text ed ed e t ≡ false
  unfolding lost_text keeps
  legal_kept e t h = by (blank t) (may_be_blank e) (allows (legal_texts ed e) t) refl refl h
    where
      by : (b m x : Bool) → blank t ≡ b → allows (legal_texts ed e) t ≡ x → ((m && b) || x) ≡ true → (not b && not (keeps ed ed e t)) ≡ false
      by true m x p q k = refl
      by false m true p q k = rw (q, eq-eqb (sense_number (sense_of ed e t)) (sense_number (sense_of ed e t)) refl) (rules (eqb e 6) (eqb e 65))
        where
          rules : (x y : Bool) → not (x || (y || true)) ≡ false
          rules true y = refl
          rules false true = refl
          rules false false = refl
      by false true false p q k = absurd (true≢false (sym k))
      by false false false p q k = absurd (true≢false (sym k))

  nothing_lost : (e : ℕ) → 1 ≤ e → e ≤ 101 → lost_at ed ed xs e ≡ false
  unfolding legal lost_text every
  nothing_lost e h l = by (leb e (last_of ed)) refl
    where
      by : (x : Bool) → leb e (last_of ed) ≡ x → lost_at ed ed xs e ≡ false
      by true k = legal_kept e (text_of e xs) (a.lawful e h (leb-true _ _ k))
      by false k = rw (text_none ed xs a.full e (leb-false _ _ k))

  pub same_edition_none : (set_of (lost_at ed ed xs) ≡ no_elements) × (list_of (lost_at ed ed xs) ≡ [])
  same_edition_none = (empty_set (lost_at ed ed xs) nothing_lost, empty_list (lost_at ed ed xs) nothing_lost)

  -- column 12 stays
  not_crossing : (ed : Edition) → crosses ed ed ≡ false
  not_crossing One = refl
  not_crossing Three = refl
  not_crossing Four = refl

  same_six : text_of 6 (result ed ed xs a) ≡ text_of 6 xs
  same_six = by (Columns.column ed ed xs a)
    where
      by : Columns.Column ed ed xs a → text_of 6 (result ed ed xs a) ≡ text_of 6 xs
      by (Columns.stays w e) = e
      by (Columns.moves c b f e) = absurd (true≢false (sym c ∙ not_crossing ed))

  -- column 111 names the edition that it named
  pub version_was : text_of 65 xs ≡ digit_of ed ∷ []
  unfolding element page
  version_was =
      one_byte xs 65 refl (omega (arith, a.full, begins ed 65 (lit≤ tt) (omega (arith, last_above ed)))) ∙
      ap (λ (n : ℕ). n ∷ []) (names_digit ed (first_byte 65 xs) (ap edition_of (sym (first_of_lem xs 65 111 column_111 (omega (arith, a.full, shortest ed)))) ∙ a.names))

  pub same_edition : recast_record ed ed xs ≡ xs
  same_edition = same_record ed (result ed ed xs a) xs same (result_long ed ed xs a) a.full
    where
      same : (e : ℕ) → 1 ≤ e → e ≤ last_of ed → text_of e (result ed ed xs a) ≡ text_of e xs
      same e h l = by (eqb e 6) (eqb e 65) refl refl
        where
          by : (x y : Bool) → eqb e 6 ≡ x → eqb e 65 ≡ y → text_of e (result ed ed xs a) ≡ text_of e xs
          by true y p q = rw (eqb-true e 6 p) same_six
          by false true p q = rw (eqb-true e 65 q) (version_text ed ed xs a ∙ sym version_was)
          by false false p q = as_it_was ed ed xs a e (p, q) h l l (nothing_lost e h (omega (arith, last_below ed)))
