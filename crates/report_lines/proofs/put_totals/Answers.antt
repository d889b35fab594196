-- `report_lines::put_totals` meets its contract. Assumes nothing.
use Rattle.report_lines.specs.Sentences.{totals}
use Rattle.text.specs.Bytes.{bytes_of}
use Rattle.wording.proofs.PutLaws.{then, within}
use Rattle.wording.specs.Wording.{line_end}
use native.Mathlib.Omega.{arith}
use Rattle.report_lines.proofs.put_totals.Goals as goal

pub returns : goal.returns
unfolding totals line_end bytes_of
returns c = within (omega arith) (then (then c.put_numbered.ensures c.put_numbered-2.ensures) c.put_text.ensures)
