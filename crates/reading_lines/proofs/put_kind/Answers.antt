-- `reading_lines::put_kind` meets its contract. Assumes nothing.
use Rattle.reading_lines.specs.Sentences.{kind_words}
use Rattle.text.specs.Bytes.{bytes_of}
use Rattle.wording.proofs.PutLaws.{within}
use native.Mathlib.Omega.{arith}
use Rattle.reading_lines.proofs.put_kind.Goals as goal

pub returns-in-Measured : goal.returns-in-Measured
unfolding kind_words bytes_of
returns-in-Measured c = rw c.in-Measured.is (within (omega arith) c.put_text.ensures)

pub returns-in-Computed : goal.returns-in-Computed
unfolding kind_words bytes_of
returns-in-Computed c = rw c.in-Computed.is (within (omega arith) c.put_text-in-Computed.ensures)

pub returns-in-IcedMeasured : goal.returns-in-IcedMeasured
unfolding kind_words bytes_of
returns-in-IcedMeasured c = rw c.in-IcedMeasured.is (within (omega arith) c.put_text-in-IcedMeasured.ensures)

pub returns-in-IcedComputed : goal.returns-in-IcedComputed
unfolding kind_words bytes_of
returns-in-IcedComputed c = rw c.in-IcedComputed.is (within (omega arith) c.put_text-in-IcedComputed.ensures)
