use Prim.Native.Nat.{◌-◌}
use Rattle.reporting.specs.FeedClauses.{seen, Takes}
use lib.ListN.{length}
use Rattle.reporting.proofs.Taking.take.Given as goal

abbrev pub invariant-loop-at : goal.invariant-loop-at
invariant-loop-at l = Takes (seen l.fn.self) l.piece l.initial.sheet l.self l.sheet l.at

abbrev pub decreases-loop-at : goal.decreases-loop-at
decreases-loop-at l = length l.piece - l.at
