-- The worked cases of document 01 and of the requests: how the record of a case is made, what is asked of it, and what is answered by the calls' own definitions.
-- Assumes nothing.
use Rattle.std.specs.Prelude.{ℕ, ◌-◌, List, [], length}
use Prim.Native.String.{String}
use Rattle.text.specs.Bytes.{bytes_of}
use Rattle.numerals.specs.Numerals.{placed, spelled}
use Rattle.element_sets.specs.ElementSets.{list_of, has_element}
use Rattle.checking.specs.Check.{Answer}
use Rattle.refusals.specs.Verdicts.{Verdict}
use Rattle.refusals.specs.Verdicts.{verdict_number, verdict_place}
use Rattle.refusals.specs.Lent.{verdict_in, left_by}
use Rattle.checking.specs.Check.{checked, answer_verdict}
use Rattle.reading.specs.declared.Reading.{Reading}
use Rattle.reading.specs.declared.Reading.TheVariants.{Missing}
use Rattle.reading.specs.declared.Readings.{Readings}
use Rattle.reading.specs.Answers.{read_of, read_as}
use Rattle.writing.specs.Written.{written}
use Rattle.recasting.specs.Recast.{blanks, recast_of, Outcome, outcome_in, verdict_said, losses_said}

-- a record with a text from column c on
unfoldable pub at : ℕ → String → List ℕ → List ℕ
at c t xs = placed (c - 1) (bytes_of t) xs

-- a record of each edition: column 1 = 3, column 111 the edition's digit, other elements blank
unfoldable pub edition1 : List ℕ
edition1 = at 1 "3" (at 111 "1" (blanks 131))

unfoldable pub edition3 : List ℕ
edition3 = at 1 "3" (at 111 "3" (blanks 159))

unfoldable pub edition4 : List ℕ
edition4 = at 1 "3" (at 111 "4" (blanks 159))

-- a record of edition 4 in half degrees, and one in whole degrees
abbrev pub halves : List ℕ
halves = at 1 "4" edition4

abbrev pub wholes : List ℕ
wholes = at 1 "5" edition4

-- column 12, latitude and longitude, as the cases write them: `3 065 0795`
abbrev pub position : String → String → String → List ℕ → List ℕ
position digit latitude longitude xs = at 12 digit (at 13 latitude (at 16 longitude xs))

-- a record, and what is asked of it: to check it, to read it and say what the element of that number is, to recast it to the edition of that number; or
-- readings, to be written
pub data Case : Type 0 where
  check : List ℕ → Case
  read : ℕ → List ℕ → Case
  recast : ℕ → List ℕ → Case
  write : ℕ → List Reading → Case

-- the buffer that is lent to recast and write: 160 bytes, one more than any record has, each '.'
unfoldable pub lent : List ℕ
lent = spelled 1 46 160 0

-- number, place, reading, the elements lost, rising, and what the lent buffer holds afterwards, empty where none is lent
pub record Result : Type 0 where
  pub number : ℕ
  pub place : ℕ
  pub reading : Reading
  pub lost : List ℕ
  pub buffer : List ℕ

abbrev pub result : ℕ → ℕ → Reading → List ℕ → List ℕ → Result
result n p r ls xs = record { number = n; place = p; reading = r; lost = ls; buffer = xs }

abbrev pub of_answer : Answer → Result
of_answer a = result (verdict_number (answer_verdict a)) (verdict_place (answer_verdict a)) Missing [] []

abbrev pub of_readings : Readings → ℕ → Result
of_readings all e = result (verdict_number (answer_verdict all.answer)) (verdict_place (answer_verdict all.answer)) (read_as all.entries e) [] []

abbrev pub of_outcome : Outcome → List ℕ → Result
of_outcome o left = result (verdict_number (verdict_said o)) (verdict_place (verdict_said o)) Missing (list_of (has_element (losses_said o))) left

abbrev pub of_verdict : Verdict → List ℕ → Result
of_verdict v left = result (verdict_number v) (verdict_place v) Missing [] left

-- what the calls' own definitions answer
unfoldable pub answer : Case → Result
answer (check xs) = of_answer (checked xs)
answer (read e xs) = of_readings (read_of xs) e
answer (recast n xs) = of_outcome (outcome_in (length lent) (recast_of xs n)) (left_by (recast_of xs n) lent)
answer (write n rs) = of_verdict (verdict_in (length lent) (written rs n)) (left_by (written rs n) lent)

-- the answers that the cases name: accepted, a refusal with its place, a reading
abbrev pub accepted : Result
accepted = result 0 0 Missing [] []

abbrev pub refused : ℕ → ℕ → Result
refused n p = result n p Missing [] []

abbrev pub is : Reading → Result
is r = result 0 0 r [] []

-- a refusal that leaves the lent buffer as it was
abbrev pub unwritten : ℕ → ℕ → Result
unwritten n p = result n p Missing [] lent

-- and a loss of just these elements, with that record at the front of the lent buffer
abbrev pub recast_as : List ℕ → List ℕ → Result
recast_as ls xs = result 0 0 Missing ls (placed 0 xs lent)

-- that record written to the front of the lent buffer
abbrev pub puts : List ℕ → Result
puts xs = recast_as [] xs
