-- `reading::lead_of` meets its contract. Assumes nothing.
use Rattle.layout.proofs.PartLaws.{coordinate_is, temperature_is}
use Rattle.std.proofs.lemmas.Bool.Decides.{nat_tests}
use native.Mathlib.Omega.{arith}
use Rattle.reading.proofs.lead_of.Goals as goal

pub returns-in-7 : goal.returns-in-7
returns-in-7 c = rw (coordinate_is, temperature_is) (grind (arith, nat_tests))

pub returns-in-17 : goal.returns-in-17
returns-in-17 c = rw (coordinate_is, temperature_is) (grind (arith, nat_tests))

pub returns-in-19 : goal.returns-in-19
returns-in-19 c = rw (coordinate_is, temperature_is) (grind (arith, nat_tests))

pub returns-in-29 : goal.returns-in-29
returns-in-29 c = rw (coordinate_is, temperature_is) (grind (arith, nat_tests))

pub returns-in-51 : goal.returns-in-51
returns-in-51 c = rw (coordinate_is, temperature_is) (grind (arith, nat_tests))

pub returns-in_default : goal.returns-in_default
returns-in_default c = rw (coordinate_is, temperature_is) (grind (arith, nat_tests))

pub returns-in_default-2 : goal.returns-in_default-2
returns-in_default-2 c = rw (coordinate_is, temperature_is) (grind (arith, nat_tests))
