-- Request 9: every place that an accepted record holds has a digit of column 12 in every edition, the poles, the equator, Greenwich, the ninetieth meridian and both forms of
-- the date line with them (`cases` of places computes those). So a recast takes the lowest, and never wants for one. Assumes nothing.
use mathlib.Core.Path.{◌≡◌, refl, ap, ◌∙◌}
use mathlib.Core.Bool.{true, false}
use mathlib.Core.List.{List, [], ◌∷◌}
use Prim.Native.Nat.{ℕ, ◌+◌}
use native.Mathlib.Omega.{arith}
use borrow.Author.Tests.{le-leb, lt-leb}
use Rattle.text.specs.Bytes.{every, blank, number, value_from}
use Rattle.layout.specs.declared.Edition.{Edition}
use Rattle.layout.specs.declared.Edition.TheVariants.{One, Three, Four}
use Rattle.layout.specs.Page.{text_of, is_coordinate, is_temperature, element, page}
use Rattle.places.specs.declared.Place.{Place}
use Rattle.places.specs.Places.{place_at}
use Rattle.places.specs.Column12.{keeps_tie, may_stand, lowest_digit}
use Rattle.places.proofs.Demand3Digits.{digit_found, same_numbers}
use Rattle.places.proofs.PlaceLaws.{with_numbers}
use Rattle.ties.specs.Ties.{octant_tie, tie}
use Rattle.ties.proofs.Together.{latitude_alike, longitude_alike}
use Rattle.checking.specs.Acceptable.{Acceptable}
use Rattle.reading.specs.declared.Reading.TheVariants.{At}
use Rattle.reading.specs.Readings.{place_of, item_of, reading_of}

-- a digit as it stands in column 12
abbrev pub standing : ℕ → List ℕ
standing digit = (48 + digit) ∷ []

-- what the edition `to` has for the place of a record: a digit that may stand in column 12, gives the same two numbers and keeps tie 2, the lowest such
pub record HasDigit (from to : Edition) (xs : List ℕ) : Type 0 where
  pub place : Place
  pub held : reading_of from xs 6 ≡ At place
  pub digit : ℕ
  pub stands : may_stand to digit ≡ true
  pub gives : place_of to (standing digit) (text_of 7 xs) (text_of 8 xs) ≡ At (record { latitude = place.latitude; longitude = place.longitude; digit = digit })
  pub ties : octant_tie to (standing digit) (text_of 8 xs) ≡ true
  pub lowest : lowest_digit from to (number (text_of 6 xs)) (number (text_of 7 xs)) (number (text_of 8 xs)) ≡ 48 + digit

-- a digit is there, and says its number
pub digit_there : (d : ℕ) → blank (standing d) ≡ false
unfolding every
digit_there d = rw (le-leb 32 (48 + d) (omega arith), lt-leb (48 + d) 32 (omega arith))

pub digit_number : (d : ℕ) → number (standing d) ≡ d
unfolding value_from
digit_number d = omega arith

digit_tied : (ed : Edition) (d : ℕ) (longitude : List ℕ) → keeps_tie ed d (number longitude) ≡ true → octant_tie ed (standing d) longitude ≡ true
unfolding octant_tie
digit_tied One d longitude h = rw (digit_there d, digit_number d) h
digit_tied Three d longitude h = refl
digit_tied Four d longitude h = refl

-- three columns that are there
read : (ed : Edition) (digit latitude longitude : List ℕ) → blank digit ≡ false → blank latitude ≡ false → blank longitude ≡ false →
    place_of ed digit latitude longitude ≡ At (place_at ed (number digit) (number latitude) (number longitude))
unfolding place_of
read ed digit latitude longitude p q r = rw (p, q, r)

-- Every accepted record with a place, each of the nine pairs of editions.
pub every_place : (from to : Edition) (xs : List ℕ) → Acceptable from xs → blank (text_of 6 xs) ≡ false → HasDigit from to xs
unfolding tie item_of is_coordinate is_temperature element page
every_place from to xs a p =
    let tied = a.tied 1 in
    let q = latitude_alike (text_of 6 xs) (text_of 7 xs) (text_of 8 xs) tied ∙ p in
    let r = longitude_alike (text_of 6 xs) (text_of 7 xs) (text_of 8 xs) tied ∙ q in
    let f = digit_found from to (number (text_of 6 xs)) (number (text_of 7 xs)) (number (text_of 8 xs)) in
    let n = same_numbers from to (number (text_of 6 xs)) f.digit (number (text_of 7 xs)) (number (text_of 8 xs)) f.same in
    record {
      place = place_at from (number (text_of 6 xs)) (number (text_of 7 xs)) (number (text_of 8 xs));
      held = read from (text_of 6 xs) (text_of 7 xs) (text_of 8 xs) p q r;
      digit = f.digit;
      stands = f.stands;
      gives =
          read to (standing f.digit) (text_of 7 xs) (text_of 8 xs) (digit_there f.digit) q r ∙
          rw (digit_number f.digit) (ap At (with_numbers to f.digit (number (text_of 7 xs)) (number (text_of 8 xs)) _ _ n.0 n.1));
      ties = digit_tied to f.digit (text_of 8 xs) f.ties;
      lowest = f.is;
    }
