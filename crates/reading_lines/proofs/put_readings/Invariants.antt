use Prim.Native.Nat.{◌*◌}
use Rattle.reading_lines.proofs.LineLaws.{lines_to}
use Rattle.wording.specs.Puts.{Adds}
use Rattle.reading_lines.proofs.put_readings.Given as goal

abbrev pub invariant-loop-k : goal.invariant-loop-k
invariant-loop-k l = Adds (lines_to l.count l.reading-items l.k) (112 * l.k) l.initial.sheet l.sheet
