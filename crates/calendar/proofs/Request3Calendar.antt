-- Request 3: the calendar is the one on the wall, and the widest day where something is blank is the greatest over what could stand there. Assumes nothing.
use mathlib.Core.Path.{◌≡◌, refl}
use mathlib.Core.Bool.{true, false, not}
use mathlib.Core.List.{List, [], ◌∷◌, map}
use Prim.Native.Nat.{ℕ, zero, suc, ◌+◌, ◌*◌, ◌%◌, ◌≤◌}
use native.Mathlib.Omega.{arith}
use lib.Dec.{lit≤}
use Rattle.text.proofs.Ways.{second_holds}
use Rattle.calendar.specs.Calendar.{divides, leaps, last_day, last_day_in, widest_day}
use Rattle.calendar.proofs.Lengths.{at_most_31, leap_longest}

-- every year that 400 divides is a leap year
pub every_400 : (n : ℕ) → leaps (n * 400) ≡ true
unfolding leaps
every_400 n =
    let by_4 : n * 400 % 4 ≡ 0 = omega arith in
    let by-400 : n * 400 % 400 ≡ 0 = omega arith in
    rw (by_4, by-400) (second_holds (not (divides 100 (n * 400))) true refl)

-- 0000, 1600 and 2000 are, 1700, 1800, 1900 and 2100 are not; 1996 is, 2003 is not
pub known_years : map leaps (0 ∷ 1600 ∷ 1700 ∷ 1800 ∷ 1900 ∷ 1996 ∷ 2000 ∷ 2003 ∷ 2100 ∷ []) ≡ true ∷ true ∷ false ∷ false ∷ false ∷ true ∷ true ∷ false ∷ false ∷ []
unfolding leaps
known_years = refl

-- the rule comes round every 400 years
pub comes_round : (year : ℕ) → leaps (year + 400) ≡ leaps year
unfolding leaps
comes_round year =
    let by_4 : (year + 400) % 4 ≡ year % 4 = omega arith in
    let by-100 : (year + 400) % 100 ≡ year % 100 = omega arith in
    let by-400 : (year + 400) % 400 ≡ year % 400 = omega arith in
    rw (by_4, by-100, by-400)

-- the months as they hang on the wall
abbrev pub months : List ℕ
months = 1 ∷ 2 ∷ 3 ∷ 4 ∷ 5 ∷ 6 ∷ 7 ∷ 8 ∷ 9 ∷ 10 ∷ 11 ∷ 12 ∷ []

pub common_year : map (last_day false) months ≡ 31 ∷ 28 ∷ 31 ∷ 30 ∷ 31 ∷ 30 ∷ 31 ∷ 31 ∷ 30 ∷ 31 ∷ 30 ∷ 31 ∷ []
unfolding last_day
common_year = refl

pub leap_year : map (last_day true) months ≡ 31 ∷ 29 ∷ 31 ∷ 30 ∷ 31 ∷ 30 ∷ 31 ∷ 31 ∷ 30 ∷ 31 ∷ 30 ∷ 31 ∷ []
unfolding last_day
leap_year = refl

-- the days of the first n years: 400 years have 146,097, which is a whole number of weeks
abbrev pub sum : List ℕ → ℕ
sum [] = 0
sum (n ∷ ns) = n + sum ns

abbrev pub days_of : ℕ → ℕ
days_of zero = 0
days_of (suc year) = sum (map (last_day_in year) months) + days_of year

pub four_centuries : days_of 400 ≡ 146097
unfolding leaps last_day
four_centuries = refl

-- n is the greatest of what f answers for those numbers that may stand
pub record Greatest (may : ℕ → Type 0) (f : ℕ → ℕ) (n : ℕ) : Type 0 where
  pub one : ℕ
  pub may_stand_lem : may one
  pub reached : f one ≡ n
  pub greatest : (k : ℕ) → may k → f k ≤ n

abbrev pub IsYear : ℕ → Type 0
IsYear year = year ≤ 9999

abbrev pub IsMonth : ℕ → Type 0
IsMonth month = (1 ≤ month) × (month ≤ 12)

-- with no year the widest day of a month is the greatest over all years, 29 in February
pub no_year : (month : ℕ) → Greatest IsYear (λ year. last_day_in year month) (widest_day month)
unfolding leaps
no_year month = record {
  one = 0;
  may_stand_lem = lit≤ tt;
  reached = refl;
  greatest = λ year h. leap_longest (leaps year) month;
}

pub no_year_february : Greatest IsYear (λ year. last_day_in year 2) 29
unfolding last_day
no_year_february = no_year 2

-- with no month it is 31, whatever the year
pub no_month : (year : ℕ) → Greatest IsMonth (last_day_in year) 31
unfolding last_day
no_month year = record {
  one = 1;
  may_stand_lem = (lit≤ tt, lit≤ tt);
  reached = refl;
  greatest = λ month h. at_most_31 (leaps year) month;
}
