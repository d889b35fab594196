-- `reading_lines::put_amount` meets its contract. Assumes nothing.
use Rattle.reading_lines.specs.Sentences.{reading_words}
use Rattle.signs.proofs.Signs.{itself}
use Rattle.text.specs.Bytes.{bytes_of}
use Rattle.wording.proofs.PutLaws.{then}
use Rattle.reading_lines.proofs.put_amount.Goals as goal

pub returns : goal.returns
unfolding reading_words bytes_of
returns c = then (then c.put_text.ensures (rw (itself _ c.ranges.amount) at c.put_signed.ensures)) c.put_kind.ensures
