-- `reporting::Ledger::take_record` meets its contract. Assumes nothing.
use native.Mathlib.Omega.{arith}
use Rattle.reporting.proofs.TellLaws.{record_tells}
use Rattle.reporting.proofs.Ledger.take_record.Goals as goal

pub returns : goal.returns
returns c =
    let telling = c.requires.telling in
    record_tells _ _ _ _ c.tell-is_refused.result _ telling (cc) (omega arith) (omega arith) c.saturating_add-count.ensures (omega arith) c.tell-is_refused.ensures
