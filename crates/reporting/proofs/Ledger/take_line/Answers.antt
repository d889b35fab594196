-- `reporting::Ledger::take_line` meets its contract. Assumes nothing.
use Rattle.reporting.proofs.TellLaws.{closed_tells}
use Rattle.reporting.proofs.Ledger.take_line.Goals as goal

pub returns-in-Closed : goal.returns-in-Closed
returns-in-Closed c = closed_tells _ _ _ c.in-Closed.is
