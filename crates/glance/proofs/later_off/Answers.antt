-- `glance::later_off` meets its contract. Assumes nothing.
use native.Mathlib.Omega.{arith}
use lib.Dec.{lit≤}
use Rattle.layout.specs.declared.Edition.TheVariants.{Three}
use Rattle.layout.proofs.RecordLaws.{has_first}
use Rattle.glance.proofs.later_off.Goals as goal

pub first_byte-requires : goal.first_byte-requires
first_byte-requires c = has_first Three c.args.line.now (omega arith) _ (lit≤ tt) (lit≤ tt)

pub first_byte-requires-2 : goal.first_byte-requires-2
first_byte-requires-2 c =
    has_first Three c.args.line.now (omega arith) _ (lit≤ tt) (lit≤ tt)

pub first_byte-requires-3 : goal.first_byte-requires-3
first_byte-requires-3 c =
    has_first Three c.args.line.now (omega arith) _ (lit≤ tt) (lit≤ tt)
