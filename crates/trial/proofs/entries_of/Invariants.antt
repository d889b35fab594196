use Prim.Native.Nat.{◌+◌, ◌-◌}
use Rattle.reading.proofs.EntryLaws.{below}
use Rattle.reading.specs.Answers.{entries_of}
use Rattle.trial.specs.Packed.{reading_at}
use mathlib.Core.Path.{◌≡◌}
use Rattle.trial.proofs.entries_of.Given as goal

abbrev pub invariant-loop-k : goal.invariant-loop-k
invariant-loop-k l = l.entries ≡ entries_of (below (l.k + 1) (λ e. reading_at l.numbers l.amounts (e - 1)))
