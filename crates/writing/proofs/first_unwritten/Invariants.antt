use Prim.Native.Nat.{◌+◌, ◌-◌}
use Rattle.text.specs.First.{first_from, first_of}
use Rattle.writing.specs.Written.{writes}
use mathlib.Core.Path.{◌≡◌}
use Rattle.writing.proofs.first_unwritten.Given as goal

abbrev pub invariant-loop-e : goal.invariant-loop-e
invariant-loop-e l = first_of 101 (writes l.edition l.entries l.text) ≡ first_from (writes l.edition l.entries l.text) l.e (101 + 1 - l.e)
