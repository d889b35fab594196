-- What each way through the code of places says of the definitions, and that the figures of a place are those that gave it. Assumes nothing.
use mathlib.Core.Path.{◌≡◌, refl, ap, ◌∙◌}
use mathlib.Core.Bool.{Bool, true, false}
use Prim.Native.Nat.{ℕ, zero, suc, ◌-◌, ◌≤◌}
use native.Mathlib.Nat.{mod-eq_of_lt}
use native.Mathlib.Omega.{arith}
use lib.IntN.{ℤ}
use Rattle.layout.specs.declared.Edition.{Edition}
use Rattle.signs.specs.Signed.{signed}
use Rattle.signs.proofs.Signs.{distance}
use Rattle.places.specs.Places.{south, west, hundredths, tenths, circle, east, place_at, latitude_figure, longitude_figure}

-- turned twice a longitude is what it was
turned_back : (w : Bool) (l : ℕ) → l ≤ hundredths 1800 → east w (east w l) ≡ l
turned_back false l h = refl
turned_back true zero h = refl
turned_back true (suc l) h =
    let back : circle - (circle - suc l) ≡ suc l = omega arith in
    rw (mod-eq_of_lt {n = circle - suc l} {m = circle} (omega arith), back) (mod-eq_of_lt {n = suc l} {m = circle} (omega arith))

-- tenths in hundredths and back again
pub in_tenths : (n : ℕ) → tenths (hundredths n) ≡ n
in_tenths n = omega arith

module _ (ed : Edition) (d la lo : ℕ) where
  -- by what the code found of the hemispheres
  pub place_is : (s w : Bool) (m n q : ℕ) (a : ℤ) (o : ℕ) → s ≡ south ed d → w ≡ west ed d → m ≡ hundredths la → n ≡ hundredths lo → q ≡ d → a ≡ signed s m → o ≡ east w n →
      record { latitude = a; longitude = o; digit = q } ≡ place_at ed d la lo
  unfolding place_at
  place_is s w m n q a o e f g h i j k = rw (j, k, e, f, g, h, i)

  -- a place is its two numbers and its digit
  pub with_numbers : (a : ℤ) (o : ℕ) → a ≡ (place_at ed d la lo).latitude → o ≡ (place_at ed d la lo).longitude → place_at ed d la lo ≡ record { latitude = a; longitude = o; digit = d }
  unfolding place_at
  with_numbers a o e f = rw (e, f)

  -- the digit and the figures of a place are those that gave it
  pub digit_of_place : (place_at ed d la lo).digit ≡ d
  unfolding place_at
  digit_of_place = refl

  pub latitude_of_place : latitude_figure (place_at ed d la lo) ≡ la
  unfolding place_at latitude_figure
  latitude_of_place = ap tenths (distance (south ed d) (hundredths la)) ∙ in_tenths la

  pub longitude_of_place : lo ≤ 1800 → longitude_figure ed (place_at ed d la lo) ≡ lo
  unfolding place_at longitude_figure
  longitude_of_place h = ap tenths (turned_back (west ed d) (hundredths lo) (omega arith)) ∙ in_tenths lo

-- digits of the same hemispheres give the same two numbers
pub same_sides : (from to : Edition) (d c la lo : ℕ) → south from d ≡ south to c → west from d ≡ west to c →
    ((place_at from d la lo).latitude ≡ (place_at to c la lo).latitude) × ((place_at from d la lo).longitude ≡ (place_at to c la lo).longitude)
unfolding place_at
same_sides from to d c la lo e f = (rw e, rw f)
