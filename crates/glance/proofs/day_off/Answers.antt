-- `glance::day_off` meets its contract. Assumes nothing.
use native.Mathlib.Omega.{arith}
use lib.Dec.{lit≤}
use Rattle.layout.specs.declared.Edition.TheVariants.{One}
use Rattle.layout.proofs.RecordLaws.{ends}
use Rattle.glance.proofs.day_off.Goals as goal

pub word_of-requires : goal.word_of-requires
word_of-requires c = omega (arith, ends One 3 (lit≤ tt))

pub word_of-requires-2 : goal.word_of-requires-2
word_of-requires-2 c = omega (arith, ends One 4 (lit≤ tt))
