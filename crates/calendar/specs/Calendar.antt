-- The calendar: Gregorian, by the same rule for every year from 0000 on. Assumes nothing.
use Rattle.std.specs.Prelude.{ℕ, ◌%◌, Bool, true, cond, not, ◌&&◌, ◌||◌, eqb}
use Rattle.text.specs.LegalTexts.{among}

abbrev pub divides : ℕ → ℕ → Bool
divides d n = eqb (n % d) 0

-- a leap year: every fourth, but of the hundreds only every fourth; 0000 is one
unfoldable pub leaps : ℕ → Bool
leaps year = divides 4 year && (not (divides 100 year) || divides 400 year)

-- the last day of a month, January being 1: February has 28 days, and 29 in a leap year; April, June, September and November have 30, the others 31
unfoldable pub last_day : Bool → ℕ → ℕ
last_day leap month = cond (eqb month 2) (cond leap 29 28) (cond (among 4 6 9 11 month) 30 31)

-- that of a month in its year; and of a month with no year, which may be a leap year
abbrev pub last_day_in : ℕ → ℕ → ℕ
last_day_in year month = last_day (leaps year) month

abbrev pub widest_day : ℕ → ℕ
widest_day month = last_day true month
