-- `reporting::Taking::take_ended` meets its contract. Assumes nothing.
use Rattle.reporting.proofs.TellLaws.{cut_tells}
use mathlib.Core.Path.{◌≡◌}
use mathlib.Core.List.{[]}
use borrow.Author.Rules.{rules}
use Rattle.reporting.proofs.Taking.take_ended.Goals as goal

pub returns-then-is_empty-clause-tells : goal.returns-then-is_empty-clause-tells
returns-then-is_empty-clause-tells c =
    let none : c.args.self.now.held ≡ [] = search rules in
    rw none (cut_tells c.args.self.now.ledger c.args.bytes.now c.take_line.ensures)
