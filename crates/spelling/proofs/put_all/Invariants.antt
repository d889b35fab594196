use Prim.Native.Nat.{◌+◌, ◌-◌}
use Rattle.layout.specs.Page.{start_of}
use Rattle.spelling.specs.Spelled.{row_for}
use lib.ListN.{length, take}
use mathlib.Core.List.{◌++◌}
use mathlib.Core.Path.{◌≡◌}
use Rattle.spelling.proofs.put_all.Given as goal

abbrev pub invariant-loop-e : goal.invariant-loop-e
invariant-loop-e l =
    (length l.row ≡ 159) × ((l.at ≡ start_of l.e) × (take l.at l.row ++ row_for l.edition l.entries l.e (101 + 1 - l.e) ≡ row_for l.edition l.entries 1 101))
