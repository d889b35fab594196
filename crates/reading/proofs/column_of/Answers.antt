-- `reading::column_of` meets its contract. Assumes nothing.
use Rattle.reading.proofs.ColumnLaws.{column_code, column_missing, column_text}
use lib.Dec.{lit≤}
use Rattle.reading.proofs.column_of.Goals as goal

pub returns-then-b-eq32 : goal.returns-then-b-eq32
returns-then-b-eq32 c = column_missing _ c.if-b-eq32.true

pub returns-then-other : goal.returns-then-other
returns-then-other c = rw c.from-letter.ensures (column_text _ c.if-b-eq32.false _ (c.strays-other.ensures (lit≤ tt)) c.if-other.true)

pub returns : goal.returns
returns c =
    column_code _ c.if-b-eq32.false _ (c.strays-other.ensures (lit≤ tt)) c.if-other.false _ _ c.saturating_sub.ensures c.from-code.ensures
