use Prim.Native.Nat.{◌+◌, ◌-◌, ◌<◌, ◌^◌}
use Rattle.wording.specs.Wording.{decimal, decimal_from}
use lib.ListN.{length}
use mathlib.Core.Path.{◌≡◌}
use Rattle.wording.proofs.places.Given as goal

abbrev pub invariant-loop-left : goal.invariant-loop-left
invariant-loop-left l = (l.k < 20) × ((l.left < 10 ^ (20 - l.k)) × (l.k + length (decimal_from (20 - l.k) l.left) ≡ length (decimal l.n)))

abbrev pub decreases-loop-left : goal.decreases-loop-left
decreases-loop-left l = 20 - l.k
