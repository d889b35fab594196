-- `reporting::ends::line_end` meets its contract: the line ends where it ends from the bytes on that are not passed over yet. Assumes nothing.
use Rattle.reporting.proofs.EndLaws.{end_passed}
use mathlib.Core.Path.{◌∙◌, sym}
use native.Mathlib.Omega.{arith}
use Rattle.reporting.proofs.ends.line_end.Goals as goal

pub loop-at-preserved : goal.loop-at-preserved
loop-at-preserved c =
    (omega arith, c.loop-at.invariant.1 ∙ end_passed _ _ _ (omega arith) (omega arith) (sym c.ends_among.ensures ∙ c.if-ends_among-ne0.false))
