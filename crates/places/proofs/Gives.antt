-- Each edition has a digit for any two hemispheres and any longitude. Assumes nothing.
use mathlib.Core.Path.{◌≡◌, refl}
use mathlib.Core.Bool.{Bool, true, false, ◌&&◌}
use Prim.Native.Nat.{ℕ, ◌≤◌}
use native.Mathlib.Omega.{arith}
use borrow.Author.Tests.{le-leb, leb-false}
use lib.Dec.{leb, lit≤}
use Rattle.text.specs.Bytes.{every, value_from}
use Rattle.text.specs.LegalTexts.{allows}
use Rattle.layout.specs.declared.Edition.{Edition}
use Rattle.layout.specs.declared.Edition.TheVariants.{One, Three, Four}
use Rattle.layout.specs.Page.{element, page}
use Rattle.places.specs.Places.{south, west, octant_fits}
use Rattle.places.specs.Column12.{keeps_tie, may_stand}

-- both halves of a test
pub both : {a b : Bool} → a ≡ true → b ≡ true → (a && b) ≡ true
both e f = rw (e, f)

-- a digit of the edition that gives the two hemispheres and keeps tie 2
pub record Gives (edition : Edition) (isSouth isWest : Bool) (longitude : ℕ) : Type 0 where
  pub digit : ℕ
  pub small : digit ≤ 9
  pub stands : may_stand edition digit ≡ true
  pub in_south : isSouth ≡ south edition digit
  pub in_west : isWest ≡ west edition digit
  pub ties : keeps_tie edition digit longitude ≡ true

module _ (longitude : ℕ) where
  -- octants up to 90 degrees, and from 90 degrees on
  near : (s w : Bool) → leb longitude 900 ≡ true → Gives One s w longitude
  unfolding allows element page every value_from south west octant_fits
  near false true h = record { digit = 0; small = lit≤ tt; stands = refl; in_south = refl; in_west = refl; ties = h }
  near false false h = record { digit = 3; small = lit≤ tt; stands = refl; in_south = refl; in_west = refl; ties = h }
  near true true h = record { digit = 5; small = lit≤ tt; stands = refl; in_south = refl; in_west = refl; ties = h }
  near true false h = record { digit = 8; small = lit≤ tt; stands = refl; in_south = refl; in_west = refl; ties = h }

  far : (s w : Bool) → leb 900 longitude ≡ true → Gives One s w longitude
  unfolding allows element page every value_from south west octant_fits
  far false true h = record { digit = 1; small = lit≤ tt; stands = refl; in_south = refl; in_west = refl; ties = h }
  far false false h = record { digit = 2; small = lit≤ tt; stands = refl; in_south = refl; in_west = refl; ties = h }
  far true true h = record { digit = 6; small = lit≤ tt; stands = refl; in_south = refl; in_west = refl; ties = h }
  far true false h = record { digit = 7; small = lit≤ tt; stands = refl; in_south = refl; in_west = refl; ties = h }

  octant : (s w x : Bool) → leb longitude 900 ≡ x → Gives One s w longitude
  octant s w true e = near s w e
  octant s w false e = far s w (le-leb 900 longitude (omega (arith, leb-false longitude 900 e)))

  -- quadrants, which are the same in editions 3 and 4
  quadrant : (s w : Bool) → Gives Three s w longitude
  unfolding allows element page every value_from south west
  quadrant false false = record { digit = 1; small = lit≤ tt; stands = refl; in_south = refl; in_west = refl; ties = refl }
  quadrant true false = record { digit = 3; small = lit≤ tt; stands = refl; in_south = refl; in_west = refl; ties = refl }
  quadrant true true = record { digit = 5; small = lit≤ tt; stands = refl; in_south = refl; in_west = refl; ties = refl }
  quadrant false true = record { digit = 7; small = lit≤ tt; stands = refl; in_south = refl; in_west = refl; ties = refl }

  alike : (s w : Bool) → Gives Three s w longitude → Gives Four s w longitude
  unfolding element page south west
  alike s w g = record { digit = g.digit; small = g.small; stands = g.stands; in_south = g.in_south; in_west = g.in_west; ties = g.ties }

  pub gives : (edition : Edition) (s w : Bool) → Gives edition s w longitude
  gives One s w = octant s w _ refl
  gives Three s w = quadrant s w
  gives Four s w = alike s w (quadrant s w)
