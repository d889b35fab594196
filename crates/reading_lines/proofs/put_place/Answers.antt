-- `reading_lines::put_place` meets its contract. Assumes nothing.
use Rattle.reading_lines.specs.Sentences.{reading_words}
use Rattle.signs.proofs.Signs.{itself}
use Rattle.text.specs.Bytes.{bytes_of}
use Rattle.wording.proofs.PutLaws.{then}
use borrow.Author.Rules.{rules}
use Rattle.reading_lines.proofs.put_place.Goals as goal

pub returns : goal.returns
unfolding reading_words bytes_of
returns c =
    let latitude = rw (itself c.args.place.latitude (record { sfits = search rules })) at c.put_signed.ensures in
    then (then (then c.put_text.ensures latitude) c.put_numbered.ensures) c.put_numbered-2.ensures
