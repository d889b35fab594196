-- How long a month can be, whatever is known of it. Assumes nothing.
use mathlib.Core.Bool.{Bool, true, false, cond}
use Prim.Native.Nat.{ℕ, ◌≤◌}
use native.Mathlib.Nat.{le_refl}
use lib.Dec.{eqb, lit≤}
use Rattle.text.specs.LegalTexts.{among}
use Rattle.calendar.specs.Calendar.{last_day, widest_day}

-- a month has 28 to 31 days
module _ (leap : Bool) (month : ℕ) where
  by_kind : (P : ℕ → Type 0) → P 28 → P 29 → P 30 → P 31 → P (last_day leap month)
  unfolding last_day
  by_kind P a b c d = by (eqb month 2) leap (among 4 6 9 11 month)
    where
      by : (x y z : Bool) → P (cond x (cond y 29 28) (cond z 30 31))
      by true true z = b
      by true false z = a
      by false y true = c
      by false y false = d

  pub at_least_28 : 28 ≤ last_day leap month
  at_least_28 = by_kind (λ n. 28 ≤ n) (lit≤ tt) (lit≤ tt) (lit≤ tt) (lit≤ tt)

  pub at_most_31 : last_day leap month ≤ 31
  at_most_31 = by_kind (λ n. n ≤ 31) (lit≤ tt) (lit≤ tt) (lit≤ tt) (lit≤ tt)

-- none is longer in another year than in a leap year
pub leap_longest : (leap : Bool) (month : ℕ) → last_day leap month ≤ widest_day month
unfolding last_day
leap_longest true month = le_refl _
leap_longest false month = by (eqb month 2)
  where
    by : (x : Bool) → cond x 28 (cond (among 4 6 9 11 month) 30 31) ≤ cond x 29 (cond (among 4 6 9 11 month) 30 31)
    by true = lit≤ tt
    by false = le_refl _

pub other_shortest : (leap : Bool) (month : ℕ) → last_day false month ≤ last_day leap month
other_shortest true month = leap_longest false month
other_shortest false month = le_refl _
