-- Demand 1: numbers are taken whole. A number past the columns is refused with 6 and does not wrap to one that fits; antt computes the verdict. Assumes nothing.
use Rattle.std.proofs.Common.{Err}
use mathlib.Core.Path.{◌≡◌, refl}
use lib.IntN.{negsuc}
use Rattle.text.specs.First.{first_from}
use Rattle.text.specs.Bytes.{every, value_from, run}
use Rattle.text.specs.LegalTexts.{allows}
use Rattle.numerals.specs.Numerals.{spelled}
use Rattle.layout.specs.declared.Edition.TheVariants.{Four}
use Rattle.refusals.specs.declared.Refusal.TheVariants.{Illegal}
use Rattle.refusals.specs.Lent.{in_room, verdict_in}
use Rattle.layout.specs.Page.{element, page, columns, start_of, text_of, legal, is_text, is_departure, is_coordinate, is_sign, is_temperature}
use Rattle.layout.specs.Records.{row_from, record_from}
use Rattle.places.specs.Places.{south, west, octant_fits, place_at, latitude_figure, longitude_figure}
use Rattle.ties.specs.Ties.{place_tie, octant_tie, sign_tie, last_digit, digit_tie, wind_tie, tie}
use Rattle.reading.specs.declared.Kind.TheVariants.{Measured}
use Rattle.reading.specs.declared.Reading.{Reading}
use Rattle.reading.specs.declared.Reading.TheVariants.{Code, Text, Amount}
use Rattle.reading.specs.Readings.{plain, temperature, departure, place_of, item_of}
use Rattle.spelling.specs.Same.{parts_of, same}
use Rattle.spelling.specs.Spelled.{amount_numeral, place_numeral, numeral_for, record_of}
use Rattle.writing.specs.Written.{writes, written_in}
use Rattle.writing.proofs.Demand2TiesBroken.{missing, said, of_edition_lem}

-- 2 to the 32 and 3 is no month, though its last 32 bits are 3
pub whole_code : verdict_in 159 (written_in Four (said 3 (Code 4294967299) (of_edition_lem 3 4))) ≡ Err (Illegal 3)
unfolding in_room written_in missing said record_of record_from row_from spelled numeral_for amount_numeral place_numeral writes legal allows every value_from text_of start_of columns element page tie first_from item_of plain temperature place_of departure south west place_at latitude_figure longitude_figure same parts_of octant_tie octant_fits place_tie sign_tie digit_tie last_digit wind_tie is_text is_departure is_coordinate is_sign is_temperature
whole_code = refl

-- the lowest amount there is
abbrev pub farthest : Reading
farthest = Amount (negsuc 9223372036854775807) Measured

pub whole_amount : verdict_in 159 (written_in Four (said 16 farthest (said 17 farthest (of_edition_lem 3 4)))) ≡ Err (Illegal 16)
unfolding in_room written_in missing said record_of record_from row_from spelled numeral_for amount_numeral place_numeral writes legal allows every value_from text_of start_of columns element page tie first_from item_of plain temperature place_of departure south west place_at latitude_figure longitude_figure same parts_of octant_tie octant_fits place_tie sign_tie digit_tie last_digit wind_tie is_text is_departure is_coordinate is_sign is_temperature
whole_amount = refl

-- the greatest text there is
pub whole_text : verdict_in 159 (written_in Four (said 42 (Text 18446744073709551615) (of_edition_lem 3 4))) ≡ Err (Illegal 42)
unfolding in_room written_in missing said record_of record_from row_from spelled numeral_for amount_numeral place_numeral writes legal allows every value_from text_of start_of columns element page tie first_from item_of plain temperature place_of departure south west place_at latitude_figure longitude_figure same parts_of octant_tie octant_fits place_tie sign_tie digit_tie last_digit wind_tie run is_text is_departure is_coordinate is_sign is_temperature
whole_text = refl
