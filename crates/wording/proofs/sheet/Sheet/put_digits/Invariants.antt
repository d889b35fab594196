use Rattle.numerals.specs.Numerals.{placed, spelled}
use mathlib.Core.Path.{◌≡◌}
use Rattle.wording.proofs.sheet.Sheet.put_digits.Given as goal

abbrev pub invariant-loop-k : goal.invariant-loop-k
invariant-loop-k l = placed l.at (spelled 10 48 l.k l.left) l.out ≡ placed l.at (spelled 10 48 l.width l.n) l.initial.out
