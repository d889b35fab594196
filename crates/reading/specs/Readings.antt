-- What the text of an element reads as, by the kind of element. Assumes nothing.
use Rattle.std.specs.Prelude.{ℕ, ◌+◌, ◌-◌, ◌%◌, List, Bool, cond, not, ◌&&◌, ◌||◌, eqb, leb}
use Rattle.text.specs.Bytes.{blank, digits, number, word}
use Rattle.text.specs.LegalTexts.{among}
use Rattle.layout.specs.declared.Edition.{Edition}
use Rattle.layout.specs.Page.{text_of, is_text, is_departure, is_coordinate, is_sign, is_temperature}
use Rattle.places.specs.Places.{place_at}
use Rattle.signs.specs.Signed.{signed}
use Rattle.reading.specs.declared.Kind.{Kind}
use Rattle.reading.specs.declared.Kind.TheVariants.{Measured, Computed, IcedMeasured, IcedComputed}
use Rattle.reading.specs.declared.Reading.{Reading}
use Rattle.reading.specs.declared.Reading.TheVariants.{Missing, Code, Text, Amount, At}

-- the leading 1 of PPPP is omitted below 1000
abbrev pub code_of : ℕ → ℕ → ℕ
code_of e n = cond (eqb e 20 && leb n 999) (n + 10000) n

-- an element by itself: digits read as a code, unless it is always a text, and anything else as a text, the bytes of the columns as one number
unfoldable pub plain : ℕ → List ℕ → Reading
plain e t = cond (blank t) Missing (cond (digits t && not (is_text e)) (Code (code_of e (number t))) (Text (word t)))

-- a sign and its temperature: signs 1, 6 give a negative amount, iced (2, 7) zero or below
abbrev pub below : ℕ → Bool
below sign = among 1 2 6 7 sign

abbrev pub kind_of : ℕ → Kind
kind_of sign = cond (eqb sign 2) IcedMeasured (cond (eqb sign 7) IcedComputed (cond (leb 5 sign) Computed Measured))

unfoldable pub temperature : List ℕ → List ℕ → Reading
temperature sign value = cond (blank sign || blank value) Missing (Amount (signed (below (number sign)) (number value)) (kind_of (number sign)))

-- element 91: a sign and two digits, in metres
unfoldable pub departure : List ℕ → Reading
departure t = cond (blank t) Missing (Amount (signed (leb 100 (number t)) (number t % 100)) Measured)

-- column 12, latitude, longitude
unfoldable pub place_of : Edition → List ℕ → List ℕ → List ℕ → Reading
place_of ed digit latitude longitude =
    cond (blank digit || blank latitude || blank longitude) Missing
    (At (place_at ed (number digit) (number latitude) (number longitude)))

-- the lowest element of those that share a reading: column 12 and the coordinates the place, a sign and the temperature after it the amount
abbrev pub lead : ℕ → ℕ
lead e = cond (is_coordinate e) 6 (cond (is_temperature e) (e - 1) e)

-- what the element reads as that shares its reading with no lower one
unfoldable pub item_of : Edition → List ℕ → ℕ → Reading
item_of ed xs e =
    cond (eqb e 6) (place_of ed (text_of 6 xs) (text_of 7 xs) (text_of 8 xs))
    (cond (is_sign e) (temperature (text_of e xs) (text_of (e + 1) xs))
    (cond (is_departure e) (departure (text_of e xs))
    (plain e (text_of e xs))))

abbrev pub reading_of : Edition → List ℕ → ℕ → Reading
reading_of ed xs e = item_of ed xs (lead e)
