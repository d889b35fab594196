use Rattle.std.proofs.Common.{◌≡◌, ◌+◌, ◌-◌, ◌≤◌, length}
use Rattle.text.specs.First.{first_from, first_of}
use Rattle.checking.specs.Check.{printable_at}
use Rattle.checking.proofs.first_unprintable.Given as goal

-- the columns up to `at` are passed over: those that are left say the same as the whole
abbrev pub invariant-loop-at : goal.invariant-loop-at
invariant-loop-at l = (l.at ≤ length l.line) × (first_of (length l.line) (printable_at l.line) ≡ first_from (printable_at l.line) (l.at + 1) (length l.line - l.at))

abbrev pub decreases-loop-at : goal.decreases-loop-at
decreases-loop-at l = length l.line - l.at

-- the loop stands before column c, and what is left to look at says the same as the whole
abbrev pub invariant-loop-c : goal.invariant-loop-c
invariant-loop-c l = first_of (length l.line) (printable_at l.line) ≡ first_from (printable_at l.line) l.c (length l.line + 1 - l.c)
