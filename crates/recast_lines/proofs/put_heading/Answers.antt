-- `recast_lines::put_heading` meets its contract. Assumes nothing.
use Rattle.recast_lines.specs.Sentences.{heading}
use Rattle.text.specs.Bytes.{bytes_of}
use Rattle.wording.proofs.PutLaws.{then, within}
use Rattle.wording.specs.Wording.{line_end}
use native.Mathlib.Omega.{arith}
use Rattle.recast_lines.proofs.put_heading.Goals as goal

pub returns : goal.returns
unfolding heading line_end bytes_of
returns c = rw (← c.number.ensures) (within (omega arith) (then c.put_numbered.ensures c.put_text.ensures))
