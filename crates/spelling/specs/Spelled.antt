-- The text that is written for a reading, and the record of them all. Whether it is legal and reads as it should is asked of it afterwards. Assumes nothing.
use Rattle.std.specs.Prelude.{ℕ, ◌+◌, ◌-◌, Bool, cond, List, eqb, ℤ, nat_abs, get_or}
use Rattle.numerals.specs.declared.Numeral.{Numeral}
use Rattle.numerals.specs.Numerals.{in_digits, in_bytes, in_blanks, spell}
use Rattle.layout.specs.declared.Edition.{Edition}
use Rattle.layout.specs.Page.{width_of, is_departure, is_sign, is_temperature}
use Rattle.layout.specs.Records.{row_from, record_from}
use Rattle.places.specs.declared.Place.{Place}
use Rattle.places.specs.Places.{latitude_figure, longitude_figure}
use Rattle.reading.specs.declared.Kind.{Kind}
use Rattle.reading.specs.declared.Kind.TheVariants.{Measured, Computed, IcedMeasured, IcedComputed}
use Rattle.reading.specs.declared.Reading.{Reading}
use Rattle.reading.specs.declared.Reading.TheVariants.{Missing, Code, Text, Amount, At}
use Rattle.signs.specs.Signed.{negative}
use Rattle.reading.specs.Readings.{lead}

-- the sign of an amount: 0, 1 measured, 5, 6 computed, 2 and 7 iced
abbrev pub sign_digit : Bool → Kind → ℕ
sign_digit below Measured = cond below 1 0
sign_digit below Computed = cond below 6 5
sign_digit below IcedMeasured = 2
sign_digit below IcedComputed = 7

-- an amount, in the columns of a sign, of a temperature, or of element 91, whose sign stands in the hundreds
unfoldable pub amount_numeral : ℕ → ℤ → Kind → Numeral
amount_numeral e a k =
    cond (is_sign e) (in_digits (sign_digit (negative a) k))
    (cond (is_temperature e) (in_digits (nat_abs a))
    (cond (is_departure e) (in_digits (cond (negative a) (nat_abs a + 100) (nat_abs a)))
    in_blanks))

-- a place, in the columns of its digit, latitude and longitude
unfoldable pub place_numeral : Edition → ℕ → Place → Numeral
place_numeral ed e p =
    cond (eqb e 6) (in_digits p.digit)
    (cond (eqb e 7) (in_digits (latitude_figure p))
    (cond (eqb e 8) (in_digits (longitude_figure ed p))
    in_blanks))

-- what is written in the columns of element e for a reading
unfoldable pub numeral_for : Edition → ℕ → Reading → Numeral
numeral_for ed e Missing = in_blanks
numeral_for ed e (Code n) = in_digits n
numeral_for ed e (Text n) = in_bytes n
numeral_for ed e (Amount a k) = amount_numeral e a k
numeral_for ed e (At p) = place_numeral ed e p

-- the reading that is given for element e: element 1 is the first of them
abbrev pub given : List Reading → ℕ → Reading
given rs e = get_or rs (e - 1) Missing

-- elements that share a reading are written from that of the lowest
abbrev pub text_for : Edition → List Reading → ℕ → List ℕ
text_for ed rs e = spell (width_of e) (numeral_for ed e (given rs (lead e)))

-- the texts of the n elements from e on, and the record of them all
unfoldable pub row_for : Edition → List Reading → ℕ → ℕ → List ℕ
row_for ed rs e n = row_from (text_for ed rs) e n

unfoldable pub record_of : Edition → List Reading → List ℕ
record_of ed rs = record_from ed (text_for ed rs)
