-- `reporting::finish` meets its contract. Assumes nothing.
use Rattle.reporting.proofs.FinishLaws.{finished}
use borrow.Author.Rules.{rules}
use mathlib.Core.Path.{refl}
use Rattle.reporting.proofs.finish.Goals as goal

pub returns : goal.returns
returns c = finished c.args.run c.of-run.ensures refl c.if-out-lt-CLOSING_MOST.false (search rules) c.take_rest.ensures.next c.take_rest.ensures.said refl refl c.put_last.ensures c.has_refused.ensures
