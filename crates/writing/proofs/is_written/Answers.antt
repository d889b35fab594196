-- `writing::is_written` meets its contract. Assumes nothing.
use Rattle.text.proofs.Ways.{and_goes_on, and_stops}
use Rattle.writing.proofs.is_written.Goals as goal

pub returns-then-is_legal : goal.returns-then-is_legal
returns-then-is_legal c = and_goes_on _ _ c.is_legal.ensures _ _ c.if-is_legal.true c.is_same.ensures

pub returns-else-is_legal : goal.returns-else-is_legal
returns-else-is_legal c = and_stops _ _ c.is_legal.ensures _ c.if-is_legal.false
