-- `glance::codes_off` meets its contract. Assumes nothing.
use native.Mathlib.Omega.{arith}
use lib.Dec.{lit≤}
use Rattle.layout.specs.declared.Edition.TheVariants.{One}
use Rattle.layout.proofs.RecordLaws.{begins}
use Rattle.glance.proofs.codes_off.Goals as goal

pub first_byte-requires : goal.first_byte-requires
first_byte-requires c = omega (arith, begins One 1 (lit≤ tt) (lit≤ tt))

pub first_byte-requires-2 : goal.first_byte-requires-2
first_byte-requires-2 c = omega (arith, begins One 46 (lit≤ tt) (lit≤ tt))
