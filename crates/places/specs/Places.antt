-- Places: what column 12, latitude and longitude say together, and what stands in those columns for a place. Assumes nothing.
use Rattle.std.specs.Prelude.{ℕ, ◌-◌, ◌*◌, ◌/◌, ◌%◌, ◌≡◌, Bool, cond, leb, nat_abs}
use Rattle.text.specs.LegalTexts.{among}
use Rattle.layout.specs.declared.Edition.{Edition}
use Rattle.layout.specs.declared.Edition.TheVariants.{One, Three, Four}
use Rattle.signs.specs.Signed.{signed}
use Rattle.places.specs.declared.Place.{Place}

-- the hemispheres that a digit gives: octants in edition 1, quadrants in the others
unfoldable pub south : Edition → ℕ → Bool
south One digit = leb 5 digit
south Three digit = among 3 5 3 5 digit
south Four digit = among 3 5 3 5 digit

unfoldable pub west : Edition → ℕ → Bool
west One digit = among 0 1 5 6 digit
west Three digit = among 5 7 5 7 digit
west Four digit = among 5 7 5 7 digit

-- the octants' ranges, which tie 2 asks for: octants 0, 3, 5, 8 need longitude at most 0900; 1, 2, 6, 7 at least 0900
unfoldable pub octant_fits : ℕ → ℕ → Bool
octant_fits octant longitude = cond (among 0 3 5 8 octant) (leb longitude 900) (leb 900 longitude)

-- the unit: a place counts hundredths of a degree, so many to each tenth that the columns count
abbrev pub unit : ℕ
unit = 10

abbrev pub hundredths : ℕ → ℕ
hundredths tenths = tenths * unit

-- the whole tenths in so many hundredths
abbrev pub tenths : ℕ → ℕ
tenths hundredths = hundredths / unit

-- the whole circle, 360.0 degrees
abbrev pub circle : ℕ
circle = hundredths 3600

-- east longitude in hundredths, 0..35999; 180.00 W is 180.00 E. The same turns it back
abbrev pub east : Bool → ℕ → ℕ
east isWest longitude = cond isWest ((circle - longitude) % circle) longitude

-- the place that a digit, a latitude and a longitude give, each the number that its columns say
unfoldable pub place_at : Edition → ℕ → ℕ → ℕ → Place
place_at ed digit latitude longitude = record {
  latitude = signed (south ed digit) (hundredths latitude);
  longitude = east (west ed digit) (hundredths longitude);
  digit = digit;
}

-- the numbers that stand in the columns of latitude and longitude for a place
unfoldable pub latitude_figure : Place → ℕ
latitude_figure p = tenths (nat_abs p.latitude)

unfoldable pub longitude_figure : Edition → Place → ℕ
longitude_figure ed p = tenths (east (west ed p.digit) p.longitude)

-- both numbers of a place are multiples of ten, as those are that columns say
pub record Tens (p : Place) : Type 0 where
  pub latitude : nat_abs p.latitude % 10 ≡ 0
  pub longitude : p.longitude % 10 ≡ 0
