-- `recast_lines::put_done` meets its contract. Assumes nothing.
use Rattle.recast_lines.specs.Sentences.{line_of}
use Rattle.text.specs.Bytes.{bytes_of}
use Rattle.wording.proofs.PutLaws.{then, within}
use Rattle.wording.specs.Wording.{line_end}
use native.Mathlib.Omega.{arith}
use Rattle.recast_lines.proofs.put_done.Goals as goal

pub returns : goal.returns
unfolding line_of line_end bytes_of
returns c = rw (← c.count.ensures) (within (omega arith) (then (then (then c.put_number.ensures c.put_numbered.ensures) c.put_lost.ensures) c.put_text.ensures))
