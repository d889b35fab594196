-- The ties between elements, in document 01's order and words. Each is a test of the elements' texts. Assumes nothing.
use Rattle.std.specs.Prelude.{ℕ, ◌%◌, List, [], ◌∷◌, Bool, true, cond, not, ◌&&◌, ◌||◌, eqb, leb, length, get_or}
use Rattle.std.specs.Bool.{beq}
use Rattle.text.specs.Bytes.{blank, number}
use Rattle.text.specs.First.{first_of}
use Rattle.calendar.specs.Calendar.{last_day_in, widest_day}
use Rattle.layout.specs.declared.Edition.{Edition}
use Rattle.layout.specs.declared.Edition.TheVariants.{One, Three, Four}
use Rattle.layout.specs.Page.{text_of}
use Rattle.places.specs.Places.{octant_fits}

-- something is written there
abbrev pub there : List ℕ → Bool
there t = not (blank t)

-- 1. column 12, latitude, longitude: all there or all blank
unfoldable pub place_tie : List ℕ → List ℕ → List ℕ → Bool
place_tie digit latitude longitude = beq (there digit) (there latitude) && beq (there latitude) (there longitude)

-- 2. edition 1: the longitude lies in the octant's range
unfoldable pub octant_tie : Edition → List ℕ → List ℕ → Bool
octant_tie One digit longitude = blank digit || octant_fits (number digit) (number longitude)
octant_tie Three digit longitude = true
octant_tie Four digit longitude = true

-- 3 to 6. air, dew point, sea, wet bulb: sign and value both there or both blank; sign 1 or 6 not with 000
abbrev pub minus : ℕ → Bool
minus sign = eqb sign 1 || eqb sign 6

unfoldable pub sign_tie : List ℕ → List ℕ → Bool
sign_tie sign value = beq (there sign) (there value) && not (minus (number sign) && eqb (number value) 0)

-- 7. column 1 = 4 wants last temperature digit 0 or 5, 5 wants 0. It binds air and sea temperature, and dew point and wet bulb only with measured signs 0, 1, 2;
-- with 5, 6, 7 any tenth is right. A temperature that is not there says 0
unfoldable pub last_digit : ℕ → ℕ → Bool
last_digit format value = cond (eqb format 4) (eqb (value % 10) 0 || eqb (value % 10) 5) (cond (eqb format 5) (eqb (value % 10) 0) true)

abbrev pub tenths_fit : List ℕ → List ℕ → Bool
tenths_fit format value = last_digit (number format) (number value)

abbrev pub measured_fit : List ℕ → List ℕ → List ℕ → Bool
measured_fit format sign value = cond (leb (number sign) 2) (tenths_fit format value) true

unfoldable pub digit_tie : List ℕ → List ℕ → List ℕ → List ℕ → List ℕ → List ℕ → List ℕ → Bool
digit_tie format air dewSign dewPoint sea wetSign wetBulb =
    tenths_fit format air && (measured_fit format dewSign dewPoint && (tenths_fit format sea && measured_fit format wetSign wetBulb))

-- 8, 9. ff needs iw; RWS needs iw
unfoldable pub wind_tie : List ℕ → List ℕ → Bool
wind_tie speed indicator = blank speed || there indicator

-- 10. the day exists in its month; where year or month is blank the widest day stays allowed: 31 with no month, with no year the month's
unfoldable pub latest_day : List ℕ → List ℕ → ℕ
latest_day year month = cond (blank month) 31 (cond (blank year) (widest_day (number month)) (last_day_in (number year) (number month)))

unfoldable pub day_tie : List ℕ → List ℕ → List ℕ → Bool
day_tie year month day = blank day || leb (number day) (latest_day year month)

-- the ties of a record, from the first on; how many there are is the length of this list
abbrev pub ties : Edition → List ℕ → List Bool
ties ed xs =
    place_tie (text_of 6 xs) (text_of 7 xs) (text_of 8 xs) ∷
    octant_tie ed (text_of 6 xs) (text_of 8 xs) ∷
    sign_tie (text_of 16 xs) (text_of 17 xs) ∷
    sign_tie (text_of 18 xs) (text_of 19 xs) ∷
    sign_tie (text_of 28 xs) (text_of 29 xs) ∷
    sign_tie (text_of 50 xs) (text_of 51 xs) ∷
    digit_tie (text_of 1 xs) (text_of 17 xs) (text_of 18 xs) (text_of 19 xs) (text_of 29 xs) (text_of 50 xs) (text_of 51 xs) ∷
    wind_tie (text_of 15 xs) (text_of 14 xs) ∷
    wind_tie (text_of 93 xs) (text_of 14 xs) ∷
    day_tie (text_of 2 xs) (text_of 3 xs) (text_of 4 xs) ∷
    []

-- a tie by its number, from 1 on; at 0 and past the last there is none to break
unfoldable pub tie : Edition → List ℕ → ℕ → Bool
tie ed xs k = get_or (true ∷ ties ed xs) k true

-- the lowest tie that is broken, or 0
unfoldable pub first_broken : Edition → List ℕ → ℕ
first_broken ed xs = first_of (length (ties ed xs)) (tie ed xs)
