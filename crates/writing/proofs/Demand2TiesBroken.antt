-- Demand 2: readings that break each tie between readings, and could be written but for it; antt computes the verdict. Assumes nothing.
use Rattle.std.proofs.Common.{Err}
use mathlib.Core.Path.{◌≡◌, refl}
use mathlib.Core.List.{List, [], ◌∷◌, map}
use Prim.Native.Nat.{ℕ, zero, suc, ◌-◌}
use lib.IntN.{pos}
use lib.ListN.{set}
use Rattle.text.specs.First.{first_from}
use Rattle.text.specs.Bytes.{every, value_from}
use Rattle.text.specs.LegalTexts.{allows}
use Rattle.numerals.specs.Numerals.{spelled}
use Rattle.calendar.specs.Calendar.{leaps, last_day}
use Rattle.layout.specs.declared.Edition.TheVariants.{One, Three, Four}
use Rattle.refusals.specs.declared.Refusal.TheVariants.{Broken}
use Rattle.refusals.specs.Lent.{in_room, verdict_in}
use Rattle.refusals.specs.Verdicts.{Verdict}
use Rattle.layout.specs.Page.{element, page, columns, start_of, text_of, legal, is_text, is_departure, is_coordinate, is_sign, is_temperature}
use Rattle.layout.specs.Records.{row_from, record_from}
use Rattle.places.specs.Places.{south, west, octant_fits, place_at, latitude_figure, longitude_figure}
use Rattle.ties.specs.Ties.{place_tie, octant_tie, sign_tie, last_digit, digit_tie, wind_tie, latest_day, day_tie, tie, first_broken}
use Rattle.reading.specs.declared.Kind.TheVariants.{Measured}
use Rattle.reading.specs.declared.Reading.{Reading}
use Rattle.reading.specs.declared.Reading.TheVariants.{Missing, Code, Amount, At}
use Rattle.reading.specs.Readings.{plain, temperature, departure, place_of, item_of}
use Rattle.spelling.specs.Same.{parts_of, same}
use Rattle.spelling.specs.Spelled.{amount_numeral, place_numeral, numeral_for, record_of}
use Rattle.writing.specs.Written.{writes, written_in}
use Rattle.writing.proofs.Demand2Ties.{between_readings}

unfoldable pub missing : ℕ → List Reading
missing zero = []
missing (suc n) = Missing ∷ missing n

-- the readings with that of element e said
unfoldable pub said : ℕ → Reading → List Reading → List Reading
said e r rs = set rs (e - 1) r

abbrev pub of_edition_lem : ℕ → ℕ → List Reading
of_edition_lem format edition = said 1 (Code format) (said 65 (Code edition) (missing 101))

-- an octant that reaches to 90 degrees west, at 100 degrees west
abbrev pub far_west : Reading
far_west = At (record { latitude = pos 1000; longitude = 26000; digit = 0 })

-- readings that could be written but for a tie, one case for each tie between readings
abbrev pub broken_each : List Verdict
broken_each =
    verdict_in 131 (written_in One (said 6 far_west (said 7 far_west (said 8 far_west (of_edition_lem 3 1))))) ∷
    -- a temperature of 0.3 degrees, where column 1 says half degrees
    verdict_in 159 (written_in Three (said 16 (Amount (pos 3) Measured) (said 17 (Amount (pos 3) Measured) (of_edition_lem 4 3)))) ∷
    -- a wind speed, and a relative one, with no word of how it was measured
    verdict_in 159 (written_in Four (said 15 (Code 5) (of_edition_lem 3 4))) ∷
    verdict_in 159 (written_in Four (said 93 (Code 5) (of_edition_lem 3 4))) ∷
    -- a 31st of June
    verdict_in 159 (written_in Four (said 3 (Code 6) (said 4 (Code 31) (of_edition_lem 3 4)))) ∷
    []

-- each of those ties can be broken
pub breaks_each : broken_each ≡ map (λ k. Err (Broken k)) between_readings
unfolding in_room written_in missing said record_of record_from row_from spelled numeral_for amount_numeral place_numeral writes legal allows every value_from text_of start_of columns element page tie first_broken first_from item_of plain temperature place_of departure south west place_at latitude_figure longitude_figure same parts_of octant_tie octant_fits place_tie sign_tie digit_tie last_digit wind_tie day_tie latest_day leaps last_day is_text is_departure is_coordinate is_sign is_temperature
breaks_each = refl
