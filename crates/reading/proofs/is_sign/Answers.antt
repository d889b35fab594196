-- `reading::is_sign` meets its contract. Assumes nothing.
use Rattle.layout.proofs.PartLaws.{sign_is}
use Rattle.std.proofs.lemmas.Bool.Decides.{nat_tests}
use native.Mathlib.Omega.{arith}
use Rattle.reading.proofs.is_sign.Goals as goal

pub returns-in-16 : goal.returns-in-16
returns-in-16 c = rw sign_is (grind (arith, nat_tests))

pub returns-in_default : goal.returns-in_default
returns-in_default c = rw sign_is (grind (arith, nat_tests))
