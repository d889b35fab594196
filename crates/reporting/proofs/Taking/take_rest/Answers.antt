-- `reporting::Taking::take_rest` meets its contract. Assumes nothing.
use Rattle.reporting.proofs.FinishLaws.{rest_none, rest_line}
use borrow.Author.Rules.{rules}
use mathlib.Core.Path.{◌≡◌}
use mathlib.Core.List.{[]}
use Rattle.reporting.proofs.Taking.take_rest.Goals as goal

pub returns-then-not-is_empty : goal.returns-then-not-is_empty
returns-then-not-is_empty c =
    let run = c.args.self.now in
    let some : run.held ≡ [] → ⊥ = search rules in
    let line = rest_line run.ledger run.held some c.as_slice.ensures c.take_line.ensures in
    record { next = line.0; said = line.1 }

pub returns-else-not-is_empty : goal.returns-else-not-is_empty
returns-else-not-is_empty c =
    let run = c.args.self.now in
    let none : run.held ≡ [] = search rules in
    let nothing = rest_none run.ledger run.held _ none in
    record { next = nothing.0; said = nothing.1 }
