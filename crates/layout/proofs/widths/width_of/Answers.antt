-- `layout::widths::width_of` meets its contract. Assumes nothing.
use mathlib.Core.Path.{◌∙◌}
use native.Mathlib.Omega.{arith}
use Rattle.layout.proofs.Beyond.{width_past}
use Rattle.layout.proofs.Table.{width_there}
use Rattle.layout.proofs.widths.width_of.Goals as goal

pub returns-then-e-gt-ELEMENTS : goal.returns-then-e-gt-ELEMENTS
returns-then-e-gt-ELEMENTS c = width_past _ c.if-e-gt-ELEMENTS.true

pub returns : goal.returns
returns c = c.from.ensures ∙ width_there _ _ c.args.e (omega (arith, c.if-e-gt-ELEMENTS.false))
