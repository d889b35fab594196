-- `reporting::Ledger::take_first` meets its contract. Assumes nothing.
use Rattle.std.specs.Prelude.{None, Some}
use Rattle.reporting.proofs.TellLaws.{first_tells}
use mathlib.Core.Path.{◌∙◌, sym}
use Rattle.reporting.proofs.Ledger.take_first.Goals as goal

pub returns-in-Some : goal.returns-in-Some
returns-in-Some c = first_tells _ _ (Some _) c.requires.asking (sym c.in-Some.is ∙ c.asked_by.ensures) c.put_heading.ensures

pub returns-in-None : goal.returns-in-None
returns-in-None c = first_tells _ _ None c.requires.asking (sym c.in-None.is ∙ c.asked_by.ensures) c.put_not_held.ensures
