-- Which elements are kept: those that two editions have alike and take in one sense, and those that have rules of their own. Assumes nothing.
use mathlib.Core.Path.{◌≡◌, refl, sym, ap, ◌∙◌}
use mathlib.Core.Bool.{Bool, true, false, not, ◌&&◌, ◌||◌}
use mathlib.Core.List.{List}
use Prim.Native.Nat.{ℕ, ◌≤◌}
use native.Mathlib.Omega.{arith}
use borrow.Author.Tests.{ne_eqb, eqb-true, eqb-false}
use lib.Dec.{eqb}
use Rattle.text.specs.Bytes.{blank}
use Rattle.text.specs.LegalTexts.{allows}
use Rattle.text.specs.declared.LegalTexts.{LegalTexts}
use Rattle.text.proofs.Among.{neither_first, neither_second}
use Rattle.layout.specs.declared.Edition.{Edition}
use Rattle.layout.specs.Page.{legal_texts, may_be_blank, legal_text}
use Rattle.layout.proofs.Alike.{early_alike, added_alike}
use Rattle.meanings.specs.declared.Sense.TheVariants.{Alike}
use Rattle.meanings.specs.Meaning.{has_senses, sense_of, same_sense}
use Rattle.meanings.specs.Kept.{keeps, lost_text}

-- where an element has one sense only, every edition takes it alike
module _ (e : ℕ) (none : has_senses e ≡ false) where
  one_sense : (ed : Edition) (t : List ℕ) → sense_of ed e t ≡ Alike
  unfolding sense_of
  one_sense ed t =
      let rest = neither_second (eqb e 40) (eqb e 41 || eqb e 43) none in
      rw (neither_first (eqb e 40) (eqb e 41 || eqb e 43) none, neither_first (eqb e 41) (eqb e 43) rest, neither_second (eqb e 41) (eqb e 43) rest)

  always_same : (from to : Edition) (t : List ℕ) → same_sense (sense_of from e t) (sense_of to e t) ≡ true
  always_same from to t = rw (one_sense from t, one_sense to t)

-- whether a text is kept
module _ (from to : Edition) (e : ℕ) (t : List ℕ) where
  -- what is blank, or one of the target's texts in the one sense that the element has, is not lost
  in_texts : has_senses e ≡ false → (blank t || allows (legal_texts to e) t) ≡ true → lost_text from to e t ≡ false
  unfolding lost_text keeps
  in_texts none h = by (blank t) h
    where
      kept_here : allows (legal_texts to e) t ≡ true → (x y : Bool) → not (x || (y || (allows (legal_texts to e) t && same_sense (sense_of from e t) (sense_of to e t)))) ≡ false
      kept_here l true y = refl
      kept_here l false true = refl
      kept_here l false false = rw (l, always_same e none from to t)

      by : (b : Bool) → (b || allows (legal_texts to e) t) ≡ true → (not b && not (keeps from to e t)) ≡ false
      by true l = refl
      by false l = kept_here l (eqb e 6) (eqb e 65)

  -- the same texts and one sense: what is legal in one edition is kept in the other
  pub alike_kept : legal_texts from e ≡ legal_texts to e → has_senses e ≡ false → legal_text from e t ≡ true → lost_text from to e t ≡ false
  alike_kept same-texts none legal = in_texts none (by (may_be_blank e) (blank t) (ap (λ (s : LegalTexts). (may_be_blank e && blank t) || allows s t) (sym same-texts) ∙ legal))
    where
      by : (m b : Bool) → ((m && b) || allows (legal_texts to e) t) ≡ true → (b || allows (legal_texts to e) t) ≡ true
      by m true l = refl
      by true false l = l
      by false false l = l

  -- column 12 and column 111 have rules of their own
  by_rule : (b x : Bool) → x ≡ true → (not b && not x) ≡ false
  by_rule true x h = refl
  by_rule false x h = rw h

  column_12_kept : e ≡ 6 → lost_text from to e t ≡ false
  unfolding lost_text keeps
  column_12_kept h = by_rule (blank t) (keeps from to e t) (rw h)

  pub version_kept : e ≡ 65 → lost_text from to e t ≡ false
  unfolding lost_text keeps
  version_kept h = by_rule (blank t) (keeps from to e t) (rw h)

  -- the elements but three have one sense
  one : (e ≡ 40 → ⊥) → (e ≡ 41 → ⊥) → (e ≡ 43 → ⊥) → has_senses e ≡ false
  one a b c = rw (ne_eqb e 40 a, ne_eqb e 41 b, ne_eqb e 43 c)

  -- no element before column 70 is lost, and none of columns 81 to 109
  pub early_kept : e ≤ 39 → legal_text from e t ≡ true → lost_text from to e t ≡ false
  early_kept h legal = by (eqb e 6) refl
    where
      by : (x : Bool) → eqb e 6 ≡ x → lost_text from to e t ≡ false
      by true p = column_12_kept (eqb-true e 6 p)
      by false p = alike_kept (early_alike e h (eqb-false e 6 p) from to) (one (λ q. omega arith) (λ q. omega arith) (λ q. omega arith)) legal

  pub added_kept : 44 ≤ e → e ≤ 63 → legal_text from e t ≡ true → lost_text from to e t ≡ false
  added_kept l h legal = alike_kept (added_alike e l h from to) (one (λ q. omega arith) (λ q. omega arith) (λ q. omega arith)) legal
