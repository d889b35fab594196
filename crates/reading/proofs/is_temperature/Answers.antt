-- `reading::is_temperature` meets its contract. Assumes nothing.
use Rattle.layout.proofs.PartLaws.{temperature_is}
use Rattle.std.proofs.lemmas.Bool.Decides.{nat_tests}
use native.Mathlib.Omega.{arith}
use Rattle.reading.proofs.is_temperature.Goals as goal

pub returns-in-17 : goal.returns-in-17
returns-in-17 c = rw temperature_is (grind (arith, nat_tests))

pub returns-in_default : goal.returns-in_default
returns-in_default c = rw temperature_is (grind (arith, nat_tests))
