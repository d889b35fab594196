-- Tie 10 by the numbers that its texts say: what is blank says 0, and that is never in the way. Assumes nothing.
use mathlib.Core.Path.{◌≡◌, refl, sym, ap, ◌∙◌}
use mathlib.Core.Bool.{true, false}
use mathlib.Core.List.{List, [], ◌∷◌}
use Prim.Native.Nat.{ℕ, ◌≤◌}
use native.Mathlib.Nat.{le_trans}
use native.Mathlib.Omega.{arith}
use borrow.Author.Tests.{le-leb}
use lib.Dec.{leb}
use Rattle.text.specs.Bytes.{every, between, blank, number, value_from}
use Rattle.text.proofs.Blanks.{only_blank}
use Rattle.text.proofs.Ways.{and_first, and_second, decide}
use Rattle.calendar.specs.Calendar.{leaps, last_day, last_day_in}
use Rattle.calendar.proofs.Lengths.{other_shortest}
use Rattle.ties.specs.Ties.{latest_day, day_tie}

pub blank_says_0 : (t : List ℕ) → blank t ≡ true → number t ≡ 0
unfolding every value_from
blank_says_0 [] h = refl
blank_says_0 (b ∷ t) h = rw (only_blank b (and_first _ _ h)) (blank_says_0 t (and_second (between 32 32 b) _ h))

module _ (year month day : List ℕ) where
  -- a month 0 has 31 days, and the year 0 is a leap year
  latest_by_numbers : latest_day year month ≡ last_day_in (number year) (number month)
  unfolding latest_day last_day leaps
  latest_by_numbers =
      decide (blank month) (λ b. rw (b, blank_says_0 month b)) (λ b. rw b (decide (blank year) (λ d. rw (d, blank_says_0 year d)) (λ d. rw d)))

  -- and a day 0 is past none
  pub by_numbers : day_tie year month day ≡ leb (number day) (last_day_in (number year) (number month))
  unfolding day_tie
  by_numbers =
      decide (blank day)
      (λ b. let low : number day ≤ last_day_in (number year) (number month) = omega (arith, blank_says_0 day b) in rw b (sym (le-leb _ _ low)))
      (λ b. rw b (ap (leb (number day)) latest_by_numbers))

  -- a day that the month has in every year needs no look at the year
  pub in_every_year : number day ≤ last_day false (number month) → day_tie year month day ≡ true
  in_every_year h = by_numbers ∙ le-leb _ _ (le_trans h (other_shortest (leaps (number year)) (number month)))
