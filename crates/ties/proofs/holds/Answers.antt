-- `ties::holds` meets its contract: ties 7 and 10 are the same in every edition. Assumes nothing.
use mathlib.Core.Path.{◌∙◌, ap, sym}
use Rattle.ties.specs.Ties.{tie}
use Rattle.ties.proofs.holds.Goals as goal

pub returns-in-7 : goal.returns-in-7
returns-in-7 c = c.digit_tie.ensures _ ∙ sym (ap (tie _ _) c.in-7.is)

pub returns-in-10 : goal.returns-in-10
returns-in-10 c = c.day_tie.ensures _ ∙ sym (ap (tie _ _) c.in-10.is)
