-- `reading_lines::put_readings` meets its contract: the lines of the first k elements, and the one of the next. Assumes nothing.
use Rattle.reading_lines.proofs.LineLaws.{lines_all, lines_more, lines_none}
use Rattle.wording.proofs.PutLaws.{within}
use borrow.Author.Rules.{rules}
use native.Mathlib.Omega.{arith}
use Rattle.reading_lines.proofs.put_readings.Goals as goal

pub loop-k-init : goal.loop-k-init
loop-k-init c = lines_none _ c.args.entries _

pub loop-k-preserved : goal.loop-k-preserved
loop-k-preserved c = lines_more _ c.args.entries (search rules) _ c.loop-k-test.true c.loop-k.invariant c.put_reading.ensures

pub returns : goal.returns
returns c = lines_all _ c.args.entries (search rules) c.loop-k.k c.loop-k-test.false (within (omega arith) c.loop-k.invariant)
