-- Demand 3, column 12: the digit that is taken is the lowest that may stand there, gives the same signed latitude and the same east longitude, and keeps tie 2.
-- Assumes nothing.
use mathlib.Core.Path.{◌≡◌, refl, sym, ap, ◌∙◌}
use mathlib.Core.Bool.{true, false, true≢false}
use Prim.Native.Nat.{ℕ, ◌+◌, ◌-◌, ◌≤◌, ◌<◌}
use native.Mathlib.Nat.{add-sub_cancel_left}
use native.Mathlib.Omega.{arith}
use borrow.Author.Tests.{eq-eqb, eqb-true, not-true, not-false}
use Rattle.text.proofs.First.{Looked, nowhere, lowest, looked}
use Rattle.text.proofs.Ways.{and_first, and_second}
use Rattle.layout.specs.declared.Edition.{Edition}
use Rattle.signs.specs.Signed.{same_signed}
use Rattle.signs.proofs.Signs.{signed_equal, equal_signed}
use Rattle.places.specs.Places.{south, west, place_at}
use Rattle.places.specs.Column12.{same_place, keeps_tie, may_stand, suits, lowest_digit}
use Rattle.places.proofs.PlaceLaws.{same_sides}
use Rattle.places.proofs.DigitLaws.{unsuited, suited_at}
use Rattle.places.proofs.Gives.{both, Gives, gives}

-- two digits give the same place exactly where their two numbers are the same
module _ (from to : Edition) (d c latitude longitude : ℕ) where
  abbrev Same : Type 0
  Same =
      ((place_at from d latitude longitude).latitude ≡ (place_at to c latitude longitude).latitude) ×
      ((place_at from d latitude longitude).longitude ≡ (place_at to c latitude longitude).longitude)

  pub same_numbers : same_place from d to c latitude longitude ≡ true → Same
  same_numbers e = (
    signed_equal _ _ (and_first _ _ e),
    eqb-true _ _ (and_second (same_signed (place_at from d latitude longitude).latitude (place_at to c latitude longitude).latitude) _ e),
  )

  pub numbers_same : Same → same_place from d to c latitude longitude ≡ true
  numbers_same p = both (equal_signed _ _ p.0) (eq-eqb _ _ p.1)

-- the digit that is taken in the edition `to` for digit d of the edition `from`
pub record Found (from to : Edition) (d latitude longitude : ℕ) : Type 0 where
  pub digit : ℕ
  pub small : digit ≤ 9
  pub is : lowest_digit from to d latitude longitude ≡ 48 + digit
  pub stands : may_stand to digit ≡ true
  pub same : same_place from d to digit latitude longitude ≡ true
  pub ties : keeps_tie to digit longitude ≡ true
  pub lowest : (c : ℕ) → c < digit → suits from to d latitude longitude c ≡ false

module _ (from to : Edition) (d latitude longitude : ℕ) where
  -- what gives the hemispheres of d suits
  suited : (g : Gives to (south from d) (west from d) longitude) → suits from to d latitude longitude g.digit ≡ true
  unfolding suits
  suited g =
      both
      g.stands
      (both
      (numbers_same from to d g.digit latitude longitude (same_sides from to d g.digit latitude longitude g.in_south g.in_west))
      g.ties)

  -- what a look at the ten characters finds, where one of them suits
  taken : (c : ℕ) → c ≤ 9 → suits from to d latitude longitude c ≡ true → (q : ℕ) → lowest_digit from to d latitude longitude ≡ q →
      Looked (unsuited from to d latitude longitude) 48 10 q → Found from to d latitude longitude
  unfolding suits
  taken c h s q e (nowhere f) =
      absurd
      (true≢false
      (sym (f (48 + c) (omega arith) (omega arith)) ∙ suited_at from to d latitude longitude (48 + c) c _ (sym (add-sub_cancel_left 48 c)) refl s))
  taken c h s q e (lowest r a b x f) =
      let t : suits from to d latitude longitude (r - 48) ≡ true = not-false _ x in
      let u = and_second (may_stand to (r - 48)) _ t in
      record {
        digit = r - 48;
        small = omega arith;
        is = e ∙ omega arith;
        stands = and_first _ _ t;
        same = and_first _ _ u;
        ties = and_second (same_place from d to (r - 48) latitude longitude) _ u;
        lowest = λ k l. sym (ap (suits from to d latitude longitude) (add-sub_cancel_left 48 k)) ∙ not-true _ (f (48 + k) (omega arith) (omega arith));
      }

  pub digit_found : Found from to d latitude longitude
  unfolding lowest_digit
  digit_found =
      let g = gives longitude to (south from d) (west from d) in
      taken g.digit g.small (suited g) _ refl (looked (unsuited from to d latitude longitude) 48 10)
