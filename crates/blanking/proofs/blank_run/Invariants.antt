use mathlib.Core.Path.{◌≡◌}
use Prim.Native.Nat.{◌+◌, ◌-◌}
use borrow.Rule.Slice.PartMut.{put_mid}
use Rattle.blanking.specs.LostBytes.{run, blanked_by}
use Rattle.blanking.proofs.blank_run.Given as goal

-- the row with the columns so far in their place
abbrev pub invariant-loop-b : goal.invariant-loop-b
invariant-loop-b l =
    put_mid l.at (l.at + l.n - l.at) l.fn.row l.b-items ≡ blanked_by (run l.at l.b-index l.bytes.0 l.bytes.1) l.fn.row
