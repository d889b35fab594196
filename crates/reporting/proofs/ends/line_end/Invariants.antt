use Prim.Native.Nat.{◌-◌, ◌≤◌}
use Rattle.reporting.specs.Lines.{next_end}
use lib.ListN.{length}
use mathlib.Core.Path.{◌≡◌}
use Rattle.reporting.proofs.ends.line_end.Given as goal

abbrev pub invariant-loop-at : goal.invariant-loop-at
invariant-loop-at l = (l.at ≤ length l.piece) × (next_end l.piece l.from ≡ next_end l.piece l.at)

abbrev pub decreases-loop-at : goal.decreases-loop-at
decreases-loop-at l = length l.piece - l.at
