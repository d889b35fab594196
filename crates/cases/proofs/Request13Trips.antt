-- Request 13, computed: records that are recast and recast back. Another digit does come in each of the four cases that `AnotherDigit` allows, and what was lost comes home blank.
-- Assumes nothing.
use mathlib.Core.Path.{◌≡◌, refl}
use mathlib.Core.List.{List, [], ◌∷◌, map}
use Prim.Native.Nat.{ℕ}
use Rattle.text.specs.First.{first_from}
use Rattle.text.specs.Bytes.{bytes_of, every, value_from, run}
use Rattle.text.specs.LegalTexts.{allows}
use Rattle.numerals.specs.Numerals.{spelled}
use Rattle.element_sets.specs.ElementSets.{bits, set_of}
use Rattle.refusals.specs.Lent.{in_room}
use Rattle.calendar.specs.Calendar.{leaps, last_day}
use Rattle.layout.specs.declared.Edition.{Edition}
use Rattle.layout.specs.declared.Edition.TheVariants.{One, Three, Four}
use Rattle.layout.specs.Page.{element, page, columns, start_of, text_of, legal}
use Rattle.layout.specs.Records.{row_from, record_from}
use Rattle.places.specs.Places.{south, west, octant_fits, place_at}
use Rattle.places.specs.Column12.{suits, lowest_digit}
use Rattle.ties.specs.Ties.{place_tie, octant_tie, sign_tie, last_digit, digit_tie, wind_tie, latest_day, day_tie, tie, first_broken}
use Rattle.checking.specs.Check.{column, checked_in, checked}
use Rattle.meanings.specs.Meaning.{sense_of}
use Rattle.meanings.specs.Kept.{keeps, lost_text}
use Rattle.recasting.specs.Recast.{hemisphere, widened, recast_text, recast_record, recast_to, recast_after}
use Rattle.recasting.proofs.Request13ThereAndBack.{back}
use Rattle.cases.specs.Cases.{at, edition1, edition3, edition4, position, lent}

-- a record of an edition, the edition that it is recast to, and what comes home
record Trip : Type 0 where
  from : Edition
  to : Edition
  sets_out : List ℕ
  comes_home : List ℕ

abbrev trip : Edition → Edition → List ℕ → List ℕ → Trip
trip from to xs ys = record { from = from; to = to; sets_out = xs; comes_home = ys }

abbrev trips : List Trip
trips =
    -- the equator, from the south
    trip Three One (position "3" "000" "0100" edition3) (position "1" "000" "0100" edition3) ∷
    -- 0.0 W, 90.0 E, 90.0 W and 180.0 W
    trip Three One (position "7" "100" "0000" edition3) (position "1" "100" "0000" edition3) ∷
    trip One Four (position "3" "100" "0900" edition1) (position "2" "100" "0900" edition1) ∷
    trip One Four (position "1" "100" "0900" edition1) (position "0" "100" "0900" edition1) ∷
    trip Four One (position "7" "100" "1800" edition4) (position "1" "100" "1800" edition4) ∷
    -- next to all of them the digit stays
    trip One Four (position "3" "001" "0899" edition1) (position "3" "001" "0899" edition1) ∷
    trip Four One (position "7" "001" "1799" edition4) (position "7" "001" "1799" edition4) ∷
    -- between 3 and 4 it stays anywhere
    trip Three Four (position "7" "000" "0000" edition3) (position "7" "000" "0000" edition3) ∷
    -- letters of a country that edition 1 has no text for
    trip Four One (at 79 "GB" edition4) edition4 ∷
    []

pub trips_computed : map (λ t. back t.from t.to t.sets_out lent lent) trips ≡ map (λ t. t.comes_home) trips
unfolding lent at edition1 edition3 edition4 bytes_of spelled checked checked_in column legal allows every value_from run text_of start_of columns element page tie first_broken first_from octant_tie octant_fits place_tie sign_tie digit_tie last_digit wind_tie day_tie latest_day leaps last_day south west place_at recast_to recast_after in_room set_of bits keeps lost_text sense_of hemisphere lowest_digit suits recast_record record_from row_from recast_text widened
trips_computed = refl
