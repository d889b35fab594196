-- `report_lines::put_accepted` meets its contract. Assumes nothing.
use Rattle.report_lines.specs.Sentences.{accepted_line}
use Rattle.text.specs.Bytes.{bytes_of}
use Rattle.wording.proofs.PutLaws.{then, within}
use Rattle.wording.specs.Wording.{line_end}
use native.Mathlib.Omega.{arith}
use Rattle.report_lines.proofs.put_accepted.Goals as goal

pub returns : goal.returns
unfolding accepted_line line_end bytes_of
returns c = rw (← c.number.ensures) (within (omega arith) (then (then c.put_number.ensures c.put_numbered.ensures) c.put_text.ensures))
