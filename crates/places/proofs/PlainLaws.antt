-- A plain place has one digit in each edition, by its hemispheres and the side of 90 degrees, so the lowest one is that. Assumes nothing.
use mathlib.Core.Path.{◌≡◌, refl, sym, ap, ◌∙◌}
use mathlib.Core.Bool.{Bool, true, false, cond, not, ◌&&◌, ◌||◌, beq}
use Prim.Native.Nat.{ℕ, ◌+◌, ◌-◌, ◌%◌, ◌<◌, ◌≤◌}
use native.Mathlib.Omega.{arith}
use borrow.Author.Tests.{eq-eqb, ne_eqb, eqb-true, le-leb, lt-leb, ltb-true, ltb-false}
use lib.Dec.{eqb, leb, ltb}
use Rattle.text.specs.Bytes.{every, value_from}
use Rattle.text.specs.First.{first_from}
use Rattle.text.specs.LegalTexts.{among, allows}
use Rattle.text.proofs.Below.{passes_below}
use Rattle.text.proofs.First.{same_first}
use Rattle.text.proofs.Ways.{imply}
use Rattle.layout.specs.declared.Edition.{Edition}
use Rattle.layout.specs.declared.Edition.TheVariants.{One, Three, Four}
use Rattle.layout.specs.Page.{element, page}
use Rattle.places.specs.Places.{south, west, octant_fits, hundredths, circle, east, place_at}
use Rattle.places.specs.Column12.{keeps_tie, may_stand, suits, lowest_digit}
use Rattle.places.specs.Plain.{Plain, digit_in}
use Rattle.places.proofs.DigitLaws.{off_equator}
use Rattle.places.proofs.Gives.{both}

-- what tie 2 asks, by the side of 90 degrees
sides : Edition → Bool → ℕ → Bool
sides One far digit = cond (among 0 3 5 8 digit) (not far) far
sides Three far digit = true
sides Four far digit = true

-- which digit suits, by the hemispheres and the side
fitting : Edition → Bool → Bool → Bool → ℕ → Bool
fitting to far isSouth isWest c = may_stand to c && ((beq isSouth (south to c) && beq isWest (west to c)) && sides to far c)

only_one : (to : Edition) (far isSouth isWest : Bool) → first_from (λ b. not (fitting to far isSouth isWest (b - 48))) 48 10 ≡ digit_in to far isSouth isWest
unfolding first_from fitting sides allows element page every value_from south west
only_one One false false false = refl
only_one One false false true = refl
only_one One false true false = refl
only_one One false true true = refl
only_one One true false false = refl
only_one One true false true = refl
only_one One true true false = refl
only_one One true true true = refl
only_one Three far false false = refl
only_one Three far false true = refl
only_one Three far true false = refl
only_one Three far true true = refl
only_one Four far false false = refl
only_one Four far false true = refl
only_one Four far true false = refl
only_one Four far true true = refl

-- and a digit that may stand, on its side of 90 degrees, is the one that the table has for its hemispheres
abbrev in_table : Edition → Bool → ℕ → Bool
in_table ed far d = not (may_stand ed d && sides ed far d) || eqb (digit_in ed far (south ed d) (west ed d)) (48 + d)

each_in_table : (ed : Edition) (far : Bool) (d : ℕ) → d ≤ 9 → in_table ed far d ≡ true
unfolding sides allows element page every value_from south west
each_in_table One false d h = passes_below 10 (in_table One false) refl d (omega arith)
each_in_table One true d h = passes_below 10 (in_table One true) refl d (omega arith)
each_in_table Three far d h = passes_below 10 (in_table Three far) refl d (omega arith)
each_in_table Four far d h = passes_below 10 (in_table Four far) refl d (omega arith)

module _ (latitude longitude : ℕ) (p : Plain latitude longitude) where
  -- east and west of a plain place are two
  turned : ((circle - hundredths longitude) % circle ≡ circle - hundredths longitude) × (hundredths longitude < circle - hundredths longitude)
  turned =
      let some : 1 ≤ longitude = omega (arith, p.off_meridian) in
      let low = p.below in
      (omega arith, omega arith)

  easts : (v w : Bool) → eqb (east v (hundredths longitude)) (east w (hundredths longitude)) ≡ beq v w
  easts false false = eq-eqb (hundredths longitude) (hundredths longitude) refl
  easts true true = eq-eqb ((circle - hundredths longitude) % circle) ((circle - hundredths longitude) % circle) refl
  easts false true = ne_eqb (hundredths longitude) ((circle - hundredths longitude) % circle) (λ q. omega (arith, q, turned.0, turned.1))
  easts true false = ne_eqb ((circle - hundredths longitude) % circle) (hundredths longitude) (λ q. omega (arith, q, turned.0, turned.1))

  tie : (to : Edition) (c : ℕ) → keeps_tie to c longitude ≡ sides to (ltb 900 longitude) c
  unfolding sides octant_fits
  tie One c = by (ltb 900 longitude) refl
    where
      by : (x : Bool) → ltb 900 longitude ≡ x → cond (among 0 3 5 8 c) (leb longitude 900) (leb 900 longitude) ≡ cond (among 0 3 5 8 c) (not x) x
      by true h = let past = ltb-true 900 longitude h in rw (lt-leb longitude 900 past, le-leb 900 longitude (omega arith))
      by false h = let most = ltb-false 900 longitude h in rw (le-leb longitude 900 most, lt-leb 900 longitude (omega (arith, p.off_ninety)))
  tie Three c = refl
  tie Four c = refl

  module _ (from to : Edition) (d : ℕ) where
    suited : (c : ℕ) → suits from to d latitude longitude c ≡ fitting to (ltb 900 longitude) (south from d) (west from d) c
    unfolding suits fitting place_at
    suited c = rw (← (off_equator (south from d) (south to c) (hundredths latitude) (λ q. p.off_equator (omega (arith, q)))), easts (west from d) (west to c), tie to c)

    pub plain_digit : digit_in to (ltb 900 longitude) (south from d) (west from d) ≡ lowest_digit from to d latitude longitude
    unfolding lowest_digit
    plain_digit =
        sym (same_first (λ b. not (suits from to d latitude longitude (b - 48))) (λ b. not (fitting to (ltb 900 longitude) (south from d) (west from d) (b - 48))) (λ b. ap not (suited (b - 48))) 48 10 ∙
        only_one to (ltb 900 longitude) (south from d) (west from d))

    -- by what the code found of the place
    pub by_place : (x y z : Bool) → x ≡ ltb 900 longitude → y ≡ south from d → z ≡ west from d → (r : ℕ) → r ≡ digit_in to x y z → r ≡ lowest_digit from to d latitude longitude
    by_place x y z e f g r h = h ∙ rw (e, f, g) plain_digit

  -- a digit that may stand and keeps tie 2 is the only one for its place
  pub only_digit : (ed : Edition) (d : ℕ) → d ≤ 9 → may_stand ed d ≡ true → keeps_tie ed d longitude ≡ true → lowest_digit ed ed d latitude longitude ≡ 48 + d
  only_digit ed d small stands tied =
      sym (plain_digit ed ed d) ∙ eqb-true _ _ (imply _ _ (each_in_table ed (ltb 900 longitude) d small) (both stands (sym (tie ed d) ∙ tied)))
