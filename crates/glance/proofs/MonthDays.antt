-- A day that every year has in its month by their bytes has it by the calendar. Assumes nothing.
use mathlib.Core.Path.{◌≡◌, refl, sym, ap}
use mathlib.Core.Bool.{Bool, true, false, not, ◌&&◌, ◌||◌}
use mathlib.Core.List.{List}
use mathlib.Core.Logic.{◌⊎◌, inl, inr, ⊎_elim}
use Prim.Native.Nat.{ℕ, ◌≤◌}
use native.Mathlib.Omega.{arith}
use borrow.Author.Tests.{leb-true}
use lib.Dec.{leb}
use lib.ListN.{length}
use Rattle.text.specs.Bytes.{between, blank, digits, number, word, value_from}
use Rattle.text.proofs.Ways.{and_first, and_second, imply}
use Rattle.text.proofs.Below.{every_below, passes_below}
use Rattle.text.proofs.Ranges.{greatest}
use Rattle.numerals.specs.Numerals.{spelled}
use Rattle.numerals.proofs.Backs.{digits_back}
use Rattle.calendar.specs.Calendar.{last_day}
use Rattle.ties.proofs.Days.{blank_says_0}
use Rattle.glance.specs.Tests.{common}
use Rattle.glance.specs.Limits.{in_columns}

-- each month and each day that may stand on the page
days_held : ℕ → ℕ → Bool
days_held m d = not (common (in_columns 2 m) (in_columns 2 d)) || leb d (last_day false m)

all_days : every_below 13 (λ m. every_below 32 (days_held m)) ≡ true
unfolding days_held common last_day spelled value_from
all_days = refl

as_spelled : (t : List ℕ) → length t ≡ 2 → digits t ≡ true → word t ≡ in_columns 2 (number t)
as_spelled t l d = ap word (sym (digits_back 2 t l d))

-- a text that is blank, or digits from a to b
abbrev pub BlankOr : ℕ → ℕ → List ℕ → Type 0
BlankOr a b t = (blank t ≡ true) ⊎ ((digits t && between a b (number t)) ≡ true)

pub has_day : (m d : List ℕ) → length m ≡ 2 → length d ≡ 2 → BlankOr 1 12 m → BlankOr 1 31 d → common (word m) (word d) ≡ true → number d ≤ last_day false (number m)
unfolding days_held last_day
has_day m d lm ld ms ds h = ⊎_elim (λ b. omega (arith, blank_says_0 d b)) (λ x. written (and_first _ _ x) (greatest 1 31 _ (and_second (digits d) _ x)) ms) ds
  where
    written : digits d ≡ true → number d ≤ 31 → BlankOr 1 12 m → number d ≤ last_day false (number m)
    written y k (inl b) = rw (blank_says_0 m b) k
    written y k (inr x) =
        let low : number m ≤ 12 = greatest 1 12 _ (and_second (digits m) _ x) in
        let row = passes_below 13 (λ m. every_below 32 (days_held m)) all_days (number m) (omega arith) in
        leb-true _ _
        (imply (common (in_columns 2 (number m)) (in_columns 2 (number d))) _ (passes_below 32 (days_held (number m)) row (number d) (omega arith))
        (rw (sym (as_spelled m lm (and_first _ _ x)), sym (as_spelled d ld y)) h))
