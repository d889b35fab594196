-- `reading::is_single` meets its contract. Assumes nothing.
use Prim.Native.Nat.{◌-◌}
use Rattle.layout.specs.Page.{element, page, is_sign, is_text}
use Rattle.reading.proofs.ColumnLaws.{told}
use mathlib.Core.Path.{refl}
use native.Mathlib.Nat.{zero-add}
use native.Mathlib.Omega.{arith}
use Rattle.reading.proofs.is_single.Goals as goal

pub returns-then-e-lt64 : goal.returns-then-e-lt64
unfolding is_sign is_text element page
returns-then-e-lt64 c = told _ 0 64 refl _ _ (zero-add _) c.if-e-lt64.true

pub returns : goal.returns
unfolding is_sign is_text element page
returns c = told _ 64 38 refl c.args.e (c.args.e - 64) (omega (arith, c.if-e-lt64.false)) (omega (arith, c.requires))
