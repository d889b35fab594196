-- Request 3: tie 10 holds of a record exactly where its day exists in some year and some month that could stand with what the record says: whatever may stand
-- where it is blank, and else what it says. Assumes nothing.
use mathlib.Core.Path.{◌≡◌, refl, sym, ◌∙◌}
use mathlib.Core.Logic.{◌⊎◌, ◌↔◌, inl, inr, ⊎_elim}
use mathlib.Core.Bool.{true, false, cond, true≢false}
use mathlib.Core.List.{List}
use Prim.Native.Nat.{ℕ, ◌≤◌}
use native.Mathlib.Nat.{le_trans}
use borrow.Author.Tests.{leb-true, le-leb}
use lib.Dec.{lit≤}
use Rattle.text.specs.Bytes.{blank, digits, number}
use Rattle.text.specs.LegalTexts.{allows}
use Rattle.text.specs.declared.LegalTexts.TheVariants.{Within}
use Rattle.text.proofs.Among.{either_half}
use Rattle.text.proofs.Ranges.{least, greatest}
use Rattle.text.proofs.Ways.{and_second, second_holds, decide}
use Rattle.calendar.specs.Calendar.{leaps, last_day, last_day_in}
use Rattle.calendar.proofs.Lengths.{at_most_31, leap_longest}
use Rattle.calendar.proofs.Request3Calendar.{IsYear, IsMonth}
use Rattle.layout.specs.declared.Edition.{Edition}
use Rattle.layout.specs.Page.{element, page, text_of, legal_texts, may_be_blank, legal}
use Rattle.layout.proofs.Elements.{in_each}
use Rattle.ties.specs.Ties.{latest_day, day_tie, tie}

-- the day exists in a year and a month that could stand there
pub record Exists (year month day : List ℕ) : Type 0 where
  pub in_year : ℕ
  pub in_month : ℕ
  pub is_year : IsYear in_year
  pub is_month : IsMonth in_month
  pub says_year : blank year ≡ false → number year ≡ in_year
  pub says_month : blank month ≡ false → number month ≡ in_month
  pub has : number day ≤ last_day_in in_year in_month

module _ (year month day : List ℕ) where
  -- a day that exists is not past the latest that may stand
  latest : Exists year month day → number day ≤ latest_day year month
  unfolding latest_day
  latest e =
      decide (blank month) (λ b. rw b (le_trans e.has (at_most_31 _ _)))
      (λ b. rw (b, e.says_month b)
      (decide (blank year) (λ c. rw c (le_trans e.has (leap_longest _ _))) (λ c. rw (c, e.says_year c) e.has)))

  module _ (y : blank year ≡ false → IsYear (number year)) (m : blank month ≡ false → IsMonth (number month)) where
    -- a month that could stand there: January, which has 31 days, where it is blank
    in_some_month : (n : ℕ) → IsYear n → (blank year ≡ false → number year ≡ n) → number day ≤ cond (blank month) 31 (last_day_in n (number month)) → Exists year month day
    unfolding last_day
    in_some_month n i s h =
        decide (blank month)
        (λ b. record { in_year = n; in_month = 1; is_year = i; is_month = (lit≤ tt, lit≤ tt); says_year = s; says_month = λ f. absurd (true≢false (sym b ∙ f)); has = rw b at h })
        (λ b. record { in_year = n; in_month = number month; is_year = i; is_month = m b; says_year = s; says_month = λ f. refl; has = rw b at h })

    -- and a year: 0000, which is a leap year, where it is blank
    exists : number day ≤ latest_day year month → Exists year month day
    unfolding latest_day leaps
    exists h = decide (blank year) (λ b. in_some_month 0 (lit≤ tt) (λ f. absurd (true≢false (sym b ∙ f))) (rw b at h)) (λ b. in_some_month (number year) (y b) (λ f. refl) (rw b at h))

    pub day_exists : (day_tie year month day ≡ true) ↔ ((blank day ≡ true) ⊎ Exists year month day)
    unfolding day_tie
    day_exists = (
      λ h. ⊎_elim inl (λ l. inr (exists (leb-true _ _ l))) (either_half (blank day) _ h),
      ⊎_elim (λ b. rw b) (λ e. second_holds (blank day) _ (le-leb _ _ (latest e))),
    )

-- what a legal text that is there says
number_within : (ed : Edition) (xs : List ℕ) (e a b : ℕ) → may_be_blank e ≡ true → legal_texts ed e ≡ Within a b → legal ed xs e ≡ true → blank (text_of e xs) ≡ false →
    (a ≤ number (text_of e xs)) × (number (text_of e xs) ≤ b)
unfolding legal allows
number_within ed xs e a b m t l f = let n = and_second (digits (text_of e xs)) _ (rw (m, t, f) at l) in (least a b _ n, greatest a b _ n)

-- of every text whose year and month are blank or legal
pub tied_exactly : (ed : Edition) (xs : List ℕ) → legal ed xs 2 ≡ true → legal ed xs 3 ≡ true →
    (tie ed xs 10 ≡ true) ↔ ((blank (text_of 4 xs) ≡ true) ⊎ Exists (text_of 2 xs) (text_of 3 xs) (text_of 4 xs))
unfolding tie element page
tied_exactly ed xs y m =
    day_exists (text_of 2 xs) (text_of 3 xs) (text_of 4 xs)
    (λ f. (number_within ed xs 2 0 9999 refl (in_each ed 2 (Within 0 9999) refl refl refl) y f).1)
    (number_within ed xs 3 1 12 refl (in_each ed 3 (Within 1 12) refl refl refl) m)
