use Prim.Native.Nat.{ℕ, ◌<◌}
use mathlib.Core.Path.{◌≡◌}
use mathlib.Core.Bool.{false}
use Rattle.columns.proofs.Ranges.{Judged}
use Rattle.columns.proofs.part.Given as goal

abbrev pub invariant-loop-k : goal.invariant-loop-k
invariant-loop-k l = l.bad ≡ false → (j : ℕ) → j < l.k → Judged l.line l.at l.fn.table j
