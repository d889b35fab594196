-- Request 2: the place that columns give is a multiple of ten in both numbers, and its longitude is 0 to 35990 where the columns say one below 360 degrees. Assumes nothing.
use mathlib.Core.Path.{◌≡◌, ap, ◌∙◌}
use mathlib.Core.Bool.{Bool, true, false}
use Prim.Native.Nat.{ℕ, ◌%◌, ◌≤◌, ◌<◌}
use native.Mathlib.Omega.{arith}
use lib.IntN.{nat_abs}
use Rattle.layout.specs.declared.Edition.{Edition}
use Rattle.signs.proofs.Signs.{distance}
use Rattle.places.specs.Places.{south, west, hundredths, east, place_at, Tens}

-- longitude from the east
turned_tens : (w : Bool) (l : ℕ) → east w (hundredths l) % 10 ≡ 0
turned_tens false l = omega arith
turned_tens true l = omega arith

turned_most : (w : Bool) (l : ℕ) → l < 3600 → east w (hundredths l) ≤ 35990
turned_most false l h = omega arith
turned_most true l h = omega arith

module _ (ed : Edition) (d la lo : ℕ) where
  far : nat_abs (place_at ed d la lo).latitude ≡ hundredths la
  unfolding place_at
  far = distance (south ed d) (hundredths la)

  pub place_tens : Tens (place_at ed d la lo)
  unfolding place_at
  place_tens = record {
    latitude = ap (λ (n : ℕ). n % 10) far ∙ omega arith;
    longitude = turned_tens (west ed d) lo;
  }

  pub latitude_most : la ≤ 900 → nat_abs (place_at ed d la lo).latitude ≤ 9000
  latitude_most h = omega (arith, far)

  pub longitude_most : lo < 3600 → (place_at ed d la lo).longitude ≤ 35990
  unfolding place_at
  longitude_most h = turned_most (west ed d) lo h
