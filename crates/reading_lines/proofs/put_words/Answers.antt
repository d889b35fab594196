-- `reading_lines::put_words` meets its contract. Assumes nothing.
use Rattle.reading_lines.specs.Sentences.{reading_words}
use Rattle.text.specs.Bytes.{bytes_of}
use Rattle.wording.proofs.PutLaws.{unchanged, within}
use native.Mathlib.Omega.{arith}
use Rattle.reading_lines.proofs.put_words.Goals as goal

pub returns-in-Missing : goal.returns-in-Missing
unfolding reading_words
returns-in-Missing c = rw c.in-Missing.is (within (omega arith) (unchanged _))

pub returns-in-Code : goal.returns-in-Code
unfolding reading_words bytes_of
returns-in-Code c = rw c.in-Code.is (within (omega arith) c.put_numbered.ensures)

pub returns-in-Text : goal.returns-in-Text
unfolding reading_words bytes_of
returns-in-Text c = rw c.in-Text.is (within (omega arith) c.put_numbered-in-Text.ensures)
