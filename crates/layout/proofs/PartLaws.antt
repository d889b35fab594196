-- Which elements have a part that others have not: the numbers that the page gives each, found by one test of the page. Assumes nothing.
use mathlib.Core.Path.{◌≡◌, refl, sym, ◌∙◌}
use mathlib.Core.Bool.{Bool, true, false, beq}
use Prim.Native.Nat.{ℕ, ◌<◌, ◌≤◌}
use native.Mathlib.Omega.{arith}
use borrow.Author.Tests.{ne_eqb, leb-true, leb-false}
use lib.Dec.{eqb, leb}
use lib.ListN.{get_or-eq_default}
use Rattle.text.specs.LegalTexts.{among}
use Rattle.text.proofs.Among.{among_cases}
use Rattle.text.proofs.Ways.{beq_true}
use Rattle.text.proofs.Below.{every_below, passes_below}
use Rattle.layout.specs.Page.{Part, text, departure, coordinate, sign, temperature, none, elements, element, page, part_number, plays, is_text, is_departure, is_coordinate, is_sign, is_temperature}

-- past element 101 there is none, which is a code's
module _ (p : Part) (q : ℕ → Bool) (other : eqb (part_number none.part) (part_number p) ≡ false) (past : (e : ℕ) → 101 < e → q e ≡ false)
    (tested : every_below 102 (λ e. beq (plays p e) (q e)) ≡ true) where
  beyond : (e : ℕ) → 101 < e → plays p e ≡ false
  unfolding element page
  beyond e h = rw (get_or-eq_default elements none h) other

  numbers : (e : ℕ) → plays p e ≡ q e
  numbers e = by (leb e 101) refl
    where
      by : (t : Bool) → leb e 101 ≡ t → plays p e ≡ q e
      by true h = let l = leb-true e 101 h in beq_true _ _ (passes_below 102 (λ e. beq (plays p e) (q e)) tested e (omega arith))
      by false h = let l = leb-false e 101 h in beyond e l ∙ sym (past e l)

-- one of four that are no higher than 101 is none past it
past_four : (a b c d : ℕ) → a ≤ 101 → b ≤ 101 → c ≤ 101 → d ≤ 101 → (e : ℕ) → 101 < e → among a b c d e ≡ false
past_four a b c d p q r s e h = rw (ne_eqb e a (λ z. omega arith), ne_eqb e b (λ z. omega arith), ne_eqb e c (λ z. omega arith), ne_eqb e d (λ z. omega arith))

pub text_is : (e : ℕ) → is_text e ≡ among 42 43 44 44 e
unfolding is_text element page
text_is = numbers text (among 42 43 44 44) refl (past_four 42 43 44 44 (omega arith) (omega arith) (omega arith) (omega arith)) refl

pub departure_is : (e : ℕ) → is_departure e ≡ eqb e 91
unfolding is_departure element page
departure_is = numbers departure (λ e. eqb e 91) refl (λ e h. ne_eqb e 91 (λ z. omega arith)) refl

pub coordinate_is : (e : ℕ) → is_coordinate e ≡ among 7 8 7 8 e
unfolding is_coordinate element page
coordinate_is = numbers coordinate (among 7 8 7 8) refl (past_four 7 8 7 8 (omega arith) (omega arith) (omega arith) (omega arith)) refl

pub sign_is : (e : ℕ) → is_sign e ≡ among 16 18 28 50 e
unfolding is_sign element page
sign_is = numbers sign (among 16 18 28 50) refl (past_four 16 18 28 50 (omega arith) (omega arith) (omega arith) (omega arith)) refl

pub temperature_is : (e : ℕ) → is_temperature e ≡ among 17 19 29 51 e
unfolding is_temperature element page
temperature_is = numbers temperature (among 17 19 29 51) refl (past_four 17 19 29 51 (omega arith) (omega arith) (omega arith) (omega arith)) refl

-- what holds of each element with a part holds of one that has it
module _ (P : ℕ → Type 0) (e : ℕ) where
  pub coordinate_cases : P 7 → P 8 → is_coordinate e ≡ true → P e
  coordinate_cases p q h = among_cases P 7 8 7 8 e p q p q (sym (coordinate_is e) ∙ h)

  pub sign_cases : P 16 → P 18 → P 28 → P 50 → is_sign e ≡ true → P e
  sign_cases p q r s h = among_cases P 16 18 28 50 e p q r s (sym (sign_is e) ∙ h)

  pub temperature_cases : P 17 → P 19 → P 29 → P 51 → is_temperature e ≡ true → P e
  temperature_cases p q r s h = among_cases P 17 19 29 51 e p q r s (sym (temperature_is e) ∙ h)
