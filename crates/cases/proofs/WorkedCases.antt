-- The worked cases P1 to P12 of document 01 and those of the requests, proved together over a single list: antt computes what the calls' own definitions answer.
-- Assumes nothing.
use mathlib.Core.Path.{◌≡◌, refl}
use Prim.Native.Nat.{ℕ}
use mathlib.Core.List.{List, [], ◌∷◌, map}
use lib.IntN.{ℤ, pos, negsuc, neg_ℤ}
use Rattle.text.specs.First.{first_from}
use Rattle.text.specs.Bytes.{bytes_of, every, value_from, run}
use Rattle.text.specs.LegalTexts.{allows}
use Rattle.numerals.specs.Numerals.{spelled}
use Rattle.element_sets.specs.ElementSets.{passing, bits, set_of, has_element}
use Rattle.refusals.specs.Lent.{in_room}
use Rattle.calendar.specs.Calendar.{leaps, last_day}
use Rattle.layout.specs.Page.{element, page, columns, start_of, text_of, legal, is_text, is_departure, is_coordinate, is_sign, is_temperature}
use Rattle.layout.specs.Records.{row_from, record_from}
use Rattle.places.specs.Places.{south, west, octant_fits, place_at, latitude_figure, longitude_figure}
use Rattle.places.specs.Column12.{suits, lowest_digit}
use Rattle.ties.specs.Ties.{place_tie, octant_tie, sign_tie, last_digit, digit_tie, wind_tie, latest_day, day_tie, tie, first_broken}
use Rattle.checking.specs.Check.{column, checked_in, checked}
use Rattle.reading.specs.declared.Kind.{Kind}
use Rattle.reading.specs.declared.Kind.TheVariants.{Measured, Computed}
use Rattle.reading.specs.declared.Reading.{Reading}
use Rattle.reading.specs.declared.Reading.TheVariants.{Missing, Code, Amount, At}
use Rattle.reading.specs.Readings.{plain, temperature, departure, place_of, item_of}
use Rattle.reading.specs.Answers.{entries_from, read_after}
use Rattle.spelling.specs.Same.{parts_of, same}
use Rattle.spelling.specs.Spelled.{amount_numeral, place_numeral, numeral_for, record_of}
use Rattle.writing.specs.Written as Written
use Rattle.writing.proofs.Demand2TiesBroken.{missing, said, of_edition_lem}
use Rattle.meanings.specs.Meaning.{platform_sense, sense_of}
use Rattle.meanings.specs.Kept.{keeps, lost_text}
use Rattle.recasting.specs.Recast.{
  hemisphere,
  widened,
  recast_text,
  recast_record,
  recast_to,
  recast_after,
}
use Rattle.cases.specs.Cases.{
  at,
  edition1,
  edition3,
  edition4,
  halves,
  wholes,
  position,
  Case,
  check,
  read,
  recast,
  write,
  lent,
  Result,
  answer,
  accepted,
  refused,
  is,
  unwritten,
  recast_as,
  puts,
}

-- a case, and what it gives
pub record Worked : Type 0 where
  pub asked : Case
  pub answered : Result

infix 3 ◌gives◌
abbrev pub ◌gives◌ : Case → Result → Worked
c gives r = record { asked = c; answered = r }

-- the readings of a record in half degrees with a dew point of 12.3 degrees
abbrev pub dew_point : Kind → List Reading
dew_point kind = said 18 (Amount (pos 123) kind) (said 19 (Amount (pos 123) kind) (of_edition_lem 4 4))

-- the readings of a record with a day of June and no year
abbrev pub day_of_June : ℕ → List Reading
day_of_June day = said 3 (Code 6) (said 4 (Code day) (of_edition_lem 3 4))

-- a place, and the readings of a record of edition 4 that has it
abbrev pub at_place : ℤ → ℕ → ℕ → Reading
at_place latitude longitude digit = At (record { latitude = latitude; longitude = longitude; digit = digit })

abbrev pub with_place : Reading → List Reading
with_place r = said 6 r (said 7 r (said 8 r (of_edition_lem 3 4)))

abbrev pub worked : List Worked
worked =
    -- P1: edition 4, `3 065 0795`, to 1: octant 8, no loss
    (recast 1 (position "3" "065" "0795" edition4) gives recast_as [] (position "8" "065" "0795" edition1)) ∷
    -- P2: edition 1, `3 065 0795`, to 4: quadrant 1
    (recast 4 (position "3" "065" "0795" edition1) gives recast_as [] (position "1" "065" "0795" edition4)) ∷
    -- P3: edition 1, octant 3, latitude 065: 0900 accepted, 0901 refusal 7 place 2
    (check (position "3" "065" "0900" edition1) gives accepted) ∷
    (check (position "3" "065" "0901" edition1) gives refused 7 2) ∷
    -- P4: edition 1, `2 000 1800`, to 4: quadrant 1
    (recast 4 (position "2" "000" "1800" edition1) gives recast_as [] (position "1" "000" "1800" edition4)) ∷
    -- P5: sn 1: TTT 000 refusal 7 place 3; 001 is -1 tenth
    (read 17 (at 30 "1" (at 31 "000" edition4)) gives refused 7 3) ∷
    (read 17 (at 30 "1" (at 31 "001" edition4)) gives is (Amount (negsuc 0) Measured)) ∷
    -- P6: PPPP 0132 is 10132; 9987 is 9987; 1000 refusal 6 place 20
    (read 20 (at 38 "0132" edition4) gives is (Code 10132)) ∷
    (read 20 (at 38 "9987" edition4) gives is (Code 9987)) ∷
    (read 20 (at 38 "1000" edition4) gives refused 6 20) ∷
    -- P7: column 1 = 4, sn 0: TTT 235 accepted, 234 refusal 7 place 7
    (check (at 1 "4" (at 30 "0" (at 31 "235" edition4))) gives accepted) ∷
    (check (at 1 "4" (at 30 "0" (at 31 "234" edition4))) gives refused 7 7) ∷
    -- P8: VV 50, 56 accepted; 51, 55 refusal 6 place 11
    (check (at 22 "50" edition4) gives accepted) ∷
    (check (at 22 "56" edition4) gives accepted) ∷
    (check (at 22 "51" edition4) gives refused 6 11) ∷
    (check (at 22 "55" edition4) gives refused 6 11) ∷
    -- P9: column 112 = 6: edition 3 refusal 6 place 66; edition 4 to 3 loses 66 only
    (check (at 112 "6" edition3) gives refused 6 66) ∷
    (recast 3 (at 112 "6" edition4) gives recast_as (66 ∷ []) edition3) ∷
    -- P10: ff 12, iw blank: refusal 7 place 8
    (check (at 28 "12" edition4) gives refused 7 8) ∷
    -- P11: edition 3, col 71 = 4, to 4: loses 41 only
    (recast 4 (at 71 "4" edition3) gives recast_as (41 ∷ []) edition4) ∷
    -- P12: call sign `ABC` accepted; `AB`, `A BC` refusal 6 place 42
    (check (at 72 "ABC" edition4) gives accepted) ∷
    (check (at 72 "AB" edition4) gives refused 6 42) ∷
    (check (at 72 "A BC" edition4) gives refused 6 42) ∷
    -- R-7: in half degrees a dew point of 123 is accepted with signs 5, 6, 7, and refusal 7 place 7 with 0, 2
    (check (at 34 "5123" halves) gives accepted) ∷
    (check (at 34 "6123" halves) gives accepted) ∷
    (check (at 34 "7123" halves) gives accepted) ∷
    (check (at 34 "0123" halves) gives refused 7 7) ∷
    (check (at 34 "2123" halves) gives refused 7 7) ∷
    -- and so is a wet bulb
    (check (at 89 "5123" halves) gives accepted) ∷
    (check (at 89 "6123" halves) gives accepted) ∷
    (check (at 89 "7123" halves) gives accepted) ∷
    (check (at 89 "0123" halves) gives refused 7 7) ∷
    (check (at 89 "2123" halves) gives refused 7 7) ∷
    -- in whole degrees the same; air and sea are bound as before
    (check (at 34 "5123" wholes) gives accepted) ∷
    (check (at 89 "5123" wholes) gives accepted) ∷
    (check (at 30 "0123" halves) gives refused 7 7) ∷
    (check (at 50 "0123" halves) gives refused 7 7) ∷
    -- a write goes by the kind of the reading
    (write 4 (dew_point Computed) gives puts (at 34 "5123" halves)) ∷
    (write 4 (dew_point Measured) gives unwritten 7 7) ∷
    -- R-3: 31 June is refusal 7 place 10 in every edition, 30 June is accepted
    (check (at 2 "20030631" edition1) gives refused 7 10) ∷
    (check (at 2 "20030631" edition3) gives refused 7 10) ∷
    (check (at 2 "20030631" edition4) gives refused 7 10) ∷
    (check (at 2 "20030630" edition4) gives accepted) ∷
    -- 29 February of 2000, of 0000 and with no year is accepted, of 1900 and 2003 refused
    (check (at 2 "20000229" edition4) gives accepted) ∷
    (check (at 2 "00000229" edition4) gives accepted) ∷
    (check (at 2 "    0229" edition4) gives accepted) ∷
    (check (at 2 "19000229" edition4) gives refused 7 10) ∷
    (check (at 2 "20030229" edition4) gives refused 7 10) ∷
    -- with no year, 30 February and 31 April are refused; with no month 31 is accepted, and so is a blank day
    (check (at 2 "    0230" edition4) gives refused 7 10) ∷
    (check (at 2 "    0431" edition4) gives refused 7 10) ∷
    (check (at 2 "2003  31" edition4) gives accepted) ∷
    (check (at 2 "      31" edition4) gives accepted) ∷
    (check (at 2 "200302  " edition4) gives accepted) ∷
    -- a record that breaks tie 9 and tie 10 answers 9
    (check (at 149 "012" (at 2 "20030631" edition4)) gives refused 7 9) ∷
    -- write and recast go by it too
    (write 4 (day_of_June 31) gives unwritten 7 10) ∷
    (write 4 (day_of_June 30) gives puts (at 6 "0630" edition4)) ∷
    (recast 1 (at 2 "20030631" edition4) gives unwritten 7 10) ∷
    (recast 1 (at 2 "20000229" edition4) gives recast_as [] (at 2 "20000229" edition1)) ∷
    -- R-2: places in hundredths, south below zero; 180.0 W is 18000, 0.1 W is 35990, and 0.0 W is 0
    (read 6 (position "3" "342" "0182" edition4) gives is (at_place (neg_ℤ (pos 3420)) 1820 3)) ∷
    (read 7 (position "6" "342" "1800" edition1) gives is (at_place (neg_ℤ (pos 3420)) 18000 6)) ∷
    (read 8 (position "7" "000" "0001" edition3) gives is (at_place (pos 0) 35990 7)) ∷
    (read 6 (position "5" "900" "0000" edition4) gives is (at_place (neg_ℤ (pos 9000)) 0 5)) ∷
    -- what is read is written; a place off the tenths, or past the circle, is refusal 6 place 6
    (write 4 (with_place (at_place (neg_ℤ (pos 3420)) 1820 3)) gives puts (position "3" "342" "0182" edition4)) ∷
    (write 4 (with_place (at_place (neg_ℤ (pos 3425)) 1820 3)) gives unwritten 6 6) ∷
    (write 4 (with_place (at_place (neg_ℤ (pos 3420)) 1825 3)) gives unwritten 6 6) ∷
    (write 4 (with_place (at_place (neg_ℤ (pos 3420)) 35999 5)) gives unwritten 6 6) ∷
    (write 4 (with_place (at_place (neg_ℤ (pos 3420)) 36000 5)) gives unwritten 6 6) ∷
    -- R-6: the last element of each edition is read, and what an edition lacks is missing
    (read 85 (at 131 "1" edition1) gives is (Code 1)) ∷
    (read 86 (at 131 "1" edition1) gives is Missing) ∷
    (read 101 edition1 gives is Missing) ∷
    (read 101 (at 159 "5" edition3) gives is (Code 5)) ∷
    (read 101 (at 159 "7" edition4) gives is (Code 7)) ∷
    -- a refused record has no readings; 6 before 7
    (read 20 (at 38 "0132" (at 30 "1000" edition4)) gives refused 7 3) ∷
    (read 17 (at 38 "1000" (at 30 "1000" edition4)) gives refused 6 20) ∷
    []

abbrev pub cases : List Case
cases = map (λ w. w.asked) worked

abbrev pub answers : List Result
answers = map (λ w. w.answered) worked

pub worked_cases : map answer cases ≡ answers
unfolding answer lent at edition1 edition3 edition4 bytes_of spelled checked checked_in column legal allows every value_from run text_of start_of columns element page tie first_broken first_from octant_tie octant_fits place_tie sign_tie digit_tie last_digit wind_tie day_tie latest_day leaps last_day read_after entries_from item_of plain temperature south west place_at latitude_figure longitude_figure recast_after recast_to in_room set_of bits passing has_element keeps lost_text sense_of platform_sense hemisphere lowest_digit suits recast_record record_from row_from recast_text widened Written.written_as Written.written_in Written.writes record_of numeral_for amount_numeral place_numeral same parts_of place_of departure missing said is_text is_departure is_coordinate is_sign is_temperature
worked_cases = refl
