-- `reading_lines::put_written` meets its contract. Assumes nothing.
use Rattle.reading_lines.specs.Sentences.{written_line}
use Rattle.text.specs.Bytes.{bytes_of}
use Rattle.wording.proofs.PutLaws.{then, within}
use native.Mathlib.Omega.{arith}
use Rattle.reading_lines.proofs.put_written.Goals as goal

pub returns-then-is_back : goal.returns-then-is_back
unfolding written_line bytes_of
returns-then-is_back c = rw c.if-is_back.true (within (omega arith) (then c.put_number.ensures c.put_text.ensures))

pub returns-else-is_back : goal.returns-else-is_back
unfolding written_line bytes_of
returns-else-is_back c = rw c.if-is_back.false (within (omega arith) (then c.put_number.ensures c.put_text-else-is_back.ensures))
