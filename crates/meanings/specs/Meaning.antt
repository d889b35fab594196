-- What the text of an element means in an edition, as document 01 says under 'What a text means'. Assumes nothing.
use Rattle.std.specs.Prelude.{ℕ, Bool, cond, ◌||◌, List, eqb}
use Rattle.text.specs.Bytes.{number}
use Rattle.layout.specs.declared.Edition.{Edition}
use Rattle.layout.specs.declared.Edition.TheVariants.{One, Three, Four}
use Rattle.layout.specs.Page.{text_of, is_coordinate, is_sign, is_temperature}
use Rattle.reading.specs.declared.Reading.{Reading}
use Rattle.reading.specs.declared.Reading.TheVariants.{Missing, Code, Text, Amount, At}
use Rattle.reading.specs.Readings.{reading_of}
use Rattle.meanings.specs.declared.Sense.{Sense}
use Rattle.meanings.specs.declared.Sense.TheVariants.{
  Alike,
  NationalLogbook,
  InternationalLogbook,
  PaperLogbook,
  ElectronicLogbook,
  AutomatedStation,
  Others,
  VosclimShip,
  OthersOrBuoy,
  CountryNumber,
  CountryLetters,
}

-- a code that editions 1 and 3 take in one sense and edition 4 in another
abbrev pub earlier_or_later : Edition → Sense → Sense → Sense
earlier_or_later One earlier later = earlier
earlier_or_later Three earlier later = earlier
earlier_or_later Four earlier later = later

-- column 70, codes 1 and 4: national, international logbook in 1, 3; paper, electronic in 4
unfoldable pub source_sense : Edition → ℕ → Sense
source_sense ed code =
    cond (eqb code 1) (earlier_or_later ed NationalLogbook PaperLogbook)
    (cond (eqb code 4) (earlier_or_later ed InternationalLogbook ElectronicLogbook)
    Alike)

-- column 71, codes 4 and 9: automated station, others in 1, 3; VOSClim ship, others or data buoy in 4
unfoldable pub platform_sense : Edition → ℕ → Sense
platform_sense ed code =
    cond (eqb code 4) (earlier_or_later ed AutomatedStation VosclimShip)
    (cond (eqb code 9) (earlier_or_later ed Others OthersOrBuoy)
    Alike)

-- the country: numbers in 1 against letters in 3, 4
abbrev pub country_sense : Edition → Sense
country_sense One = CountryNumber
country_sense Three = CountryLetters
country_sense Four = CountryLetters

-- the elements whose codes editions take in different senses
abbrev pub has_senses : ℕ → Bool
has_senses e = eqb e 40 || (eqb e 41 || eqb e 43)

-- the sense in which an edition takes the characters of element e: the same across editions save in elements 40, 41 and 43
unfoldable pub sense_of : Edition → ℕ → List ℕ → Sense
sense_of ed e t =
    cond (eqb e 40) (source_sense ed (number t))
    (cond (eqb e 41) (platform_sense ed (number t))
    (cond (eqb e 43) (country_sense ed)
    Alike))

-- two senses are the same: each has a number of its own
abbrev pub sense_number : Sense → ℕ
sense_number Alike = 0
sense_number NationalLogbook = 1
sense_number InternationalLogbook = 2
sense_number PaperLogbook = 3
sense_number ElectronicLogbook = 4
sense_number AutomatedStation = 5
sense_number Others = 6
sense_number VosclimShip = 7
sense_number OthersOrBuoy = 8
sense_number CountryNumber = 9
sense_number CountryLetters = 10

abbrev pub same_sense : Sense → Sense → Bool
same_sense a b = eqb (sense_number a) (sense_number b)

-- a place means its two numbers, whatever digit gives them
abbrev pub without_digit : Reading → Reading
without_digit Missing = Missing
without_digit (Code n) = Code n
without_digit (Text n) = Text n
without_digit (Amount a k) = Amount a k
without_digit (At p) = At (record { latitude = p.latitude; longitude = p.longitude; digit = 0 })

-- elements 6 to 8 share the place, a sign and its temperature share the amount
abbrev pub shares : ℕ → Bool
shares e = (eqb e 6 || is_coordinate e) || (is_sign e || is_temperature e)

-- what an element means: where it shares a reading that, else its characters in their sense
pub data Meaning : Type 0 where
  reads : Reading → Meaning
  says : List ℕ → Sense → Meaning

unfoldable pub meaning_of : Edition → List ℕ → ℕ → Meaning
meaning_of ed xs e = cond (shares e) (reads (without_digit (reading_of ed xs e))) (says (text_of e xs) (sense_of ed e (text_of e xs)))
