-- The elements that all editions have alike: those before column 70 but for column 12, and those of columns 81 to 109; and that editions 3 and 4 have. Assumes nothing.
use mathlib.Core.Path.{◌≡◌, refl, sym, ap, ◌∙◌}
use mathlib.Core.Bool.{Bool, true, false}
use mathlib.Core.List.{map}
use Prim.Native.Nat.{ℕ, ◌+◌, ◌-◌, ◌<◌, ◌≤◌}
use native.Mathlib.Omega.{arith}
use borrow.Author.Tests.{leb-true, leb-false}
use lib.Dec.{leb}
use lib.ListN.{get_or, get_or-map}
use Rattle.text.specs.declared.LegalTexts.TheVariants.{Nothing}
use Rattle.layout.specs.declared.Edition.{Edition}
use Rattle.layout.specs.declared.Edition.TheVariants.{One, Three, Four}
use Rattle.layout.specs.Page.{page, none, legal_texts_in, legal_texts}
use Rattle.layout.proofs.LegalTexts.{in_all, part, in_part}

-- where antt computes that an edition has for them the texts of edition 4, it has them for each
module _ (k n e : ℕ) (l : k ≤ e) (h : e < k + n) where
  legal_texts_lem : (ed : Edition) → get_or (map (legal_texts_in ed) (part k n)) (e - k) (legal_texts_in ed none) ≡ legal_texts ed e
  legal_texts_lem ed = get_or-map (legal_texts_in ed) (part k n) (e - k) none ∙ ap (legal_texts_in ed) (in_part k n e l h)

  as_in_four : (ed : Edition) → map (legal_texts_in ed) (part k n) ≡ map (legal_texts_in Four) (part k n) → legal_texts ed e ≡ legal_texts Four e
  as_in_four ed same = sym (legal_texts_lem ed) ∙ rw (same, ← in_all ed Nothing) (legal_texts_lem Four)

  alike_in : ((ed : Edition) → map (legal_texts_in ed) (part k n) ≡ map (legal_texts_in Four) (part k n)) → (from to : Edition) → legal_texts from e ≡ legal_texts to e
  alike_in same from to = as_in_four from (same from) ∙ sym (as_in_four to (same to))

pub early_alike : (e : ℕ) → e ≤ 39 → (e ≡ 6 → ⊥) → (from to : Edition) → legal_texts from e ≡ legal_texts to e
unfolding page
early_alike e h not-six = by (leb e 5) refl
  where
    by : (x : Bool) → leb e 5 ≡ x → (from to : Edition) → legal_texts from e ≡ legal_texts to e
    by true l = alike_in 0 6 e (omega arith) (omega (arith, leb-true e 5 l)) (elim [ One ↦ refl | Three ↦ refl | Four ↦ refl ])
    by false l = alike_in 7 33 e (omega (arith, leb-false e 5 l, not-six)) (omega arith) (elim [ One ↦ refl | Three ↦ refl | Four ↦ refl ])

pub added_alike : (e : ℕ) → 44 ≤ e → e ≤ 63 → (from to : Edition) → legal_texts from e ≡ legal_texts to e
unfolding page
added_alike e l h = alike_in 44 20 e l (omega arith) (elim [ One ↦ refl | Three ↦ refl | Four ↦ refl ])

-- those that editions 3 and 4 have alike and edition 1 does not have
pub later_alike : (e : ℕ) → 87 ≤ e → e ≤ 93 → legal_texts Three e ≡ legal_texts Four e
unfolding page
later_alike e l h = as_in_four 87 7 e l (omega arith) Three refl
