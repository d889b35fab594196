use Prim.Native.Nat.{◌*◌, ◌≤◌}
use Rattle.trial.specs.Packed.{amounts_of, numbers_of}
use lib.ListN.{length, take, drop}
use mathlib.Core.List.{◌++◌}
use mathlib.Core.Path.{◌≡◌}
use Rattle.trial.proofs.put_all.Given as goal

abbrev pub invariant-loop-k : goal.invariant-loop-k
invariant-loop-k l =
    (404 ≤ length l.initial.numbers) × ((101 ≤ length l.initial.amounts) × ((length l.numbers ≡ length l.initial.numbers) × ((length l.amounts ≡ length l.initial.amounts) ×
    ((l.numbers ≡ take (4 * l.k) (numbers_of l.all.entries) ++ drop (4 * l.k) l.initial.numbers) × (l.amounts ≡ take l.k (amounts_of l.all.entries) ++ drop l.k l.initial.amounts)))))
