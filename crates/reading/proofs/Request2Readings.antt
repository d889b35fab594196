-- Request 2: a place read from an accepted record is a multiple of ten in both numbers, and within the limits of its columns. Assumes nothing.
use Rattle.std.proofs.Common.{Ok}
use mathlib.Core.Path.{◌≡◌, refl, sym, ◌∙◌}
use mathlib.Core.Bool.{Bool, true, false, cond, ◌||◌}
use mathlib.Core.List.{List}
use Prim.Native.Nat.{ℕ, ◌≤◌}
use native.Mathlib.Omega.{arith}
use lib.Dec.{lit≤}
use lib.IntN.{nat_abs}
use Rattle.text.specs.Bytes.{blank, number}
use Rattle.text.specs.declared.LegalTexts.TheVariants.{Within}
use Rattle.text.specs.LegalTexts.{among}
use Rattle.layout.specs.declared.Edition.{Edition}
use Rattle.layout.specs.Page.{element, page, text_of}
use Rattle.layout.proofs.Beyond.{last_above}
use Rattle.layout.proofs.Elements.{in_each}
use Rattle.layout.proofs.Holding.{at_most}
use Rattle.places.specs.declared.Place.{Place}
use Rattle.places.specs.Places.{place_at, Tens}
use Rattle.places.proofs.Request2Places.{place_tens, latitude_most, longitude_most}
use Rattle.checking.specs.Check.{checked}
use Rattle.checking.specs.Acceptable.{Acceptable}
use Rattle.checking.proofs.Demand2Acceptance.{accepted_exactly}
use Rattle.reading.specs.declared.Reading.TheVariants.{Missing, At}
use Rattle.reading.specs.Readings.{place_of}
use Rattle.reading.proofs.Demand2Readings.{reads, reads_place}

-- what a place from an accepted record is: multiples of ten, latitude to 90.00 and longitude to 359.90 degrees
pub record ReadPlace (p : Place) : Type 0 where
  pub tens : Tens p
  pub latitude : nat_abs p.latitude ≤ 9000
  pub longitude : p.longitude ≤ 35990

-- columns that give a place give a multiple of ten, whatever they hold
pub gives_tens : (ed : Edition) (digit latitude longitude : List ℕ) (p : Place) → place_of ed digit latitude longitude ≡ At p → Tens p
unfolding place_of
gives_tens ed digit latitude longitude p = by (blank digit || blank latitude || blank longitude)
  where
    by : (x : Bool) → cond x Missing (At (place_at ed (number digit) (number latitude) (number longitude))) ≡ At p → Tens p
    by true e = let z : ◌≡◌ {A = ℕ} 0 1 = cc in absurd (omega arith)
    by false e = let same : place_at ed (number digit) (number latitude) (number longitude) ≡ p = cc in rw (← same) (place_tens ed (number digit) (number latitude) (number longitude))

module _ (ed : Edition) (xs : List ℕ) (a : Acceptable ed xs) where
  abbrev held : Place
  held = place_at ed (number (text_of 6 xs)) (number (text_of 7 xs)) (number (text_of 8 xs))

  limits : (p : Place) → place_of ed (text_of 6 xs) (text_of 7 xs) (text_of 8 xs) ≡ At p → (nat_abs p.latitude ≤ 9000) × (p.longitude ≤ 35990)
  unfolding place_of element page
  limits p = by (blank (text_of 6 xs)) (blank (text_of 7 xs)) (blank (text_of 8 xs)) refl refl
    where
      by : (x y z : Bool) → blank (text_of 7 xs) ≡ y → blank (text_of 8 xs) ≡ z → cond (x || y || z) Missing (At held) ≡ At p → (nat_abs p.latitude ≤ 9000) × (p.longitude ≤ 35990)
      by true y z g h e = let n : ◌≡◌ {A = ℕ} 0 1 = cc in absurd (omega arith)
      by false true z g h e = let n : ◌≡◌ {A = ℕ} 0 1 = cc in absurd (omega arith)
      by false false true g h e = let n : ◌≡◌ {A = ℕ} 0 1 = cc in absurd (omega arith)
      by false false false g h e =
          let same : held ≡ p = cc in
          let north = at_most ed xs 0 900 7 (in_each ed 7 (Within 0 900) refl refl refl) (a.lawful 7 (lit≤ tt) (omega (arith, last_above ed))) g in
          let far = at_most ed xs 0 1800 8 (in_each ed 8 (Within 0 1800) refl refl refl) (a.lawful 8 (lit≤ tt) (omega (arith, last_above ed))) h in
          rw (← same) (latitude_most ed (number (text_of 6 xs)) (number (text_of 7 xs)) (number (text_of 8 xs)) north, longitude_most ed (number (text_of 6 xs)) (number (text_of 7 xs)) (number (text_of 8 xs)) (omega arith))

-- Every accepted record, each of the elements 6 to 8 that is not missing.
pub place_read : (ed : Edition) (xs : List ℕ) → checked xs ≡ Ok ed → (e : ℕ) → among 6 7 8 8 e ≡ true → (p : Place) → reads xs e ≡ At p → ReadPlace p
place_read ed xs accepted e k p r =
    let gives = sym (reads_place ed xs accepted e k) ∙ r in
    let at = limits ed xs ((accepted_exactly xs ed).0 accepted) p gives in
    record { tens = gives_tens ed (text_of 6 xs) (text_of 7 xs) (text_of 8 xs) p gives; latitude = at.0; longitude = at.1 }
