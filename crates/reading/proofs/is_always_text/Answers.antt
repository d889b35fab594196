-- `reading::is_always_text` meets its contract. Assumes nothing.
use Rattle.layout.proofs.PartLaws.{text_is}
use Rattle.std.proofs.lemmas.Bool.Decides.{nat_tests}
use native.Mathlib.Omega.{arith}
use Rattle.reading.proofs.is_always_text.Goals as goal

pub returns-in-42 : goal.returns-in-42
returns-in-42 c = rw text_is (grind (arith, nat_tests))

pub returns-in_default : goal.returns-in_default
returns-in_default c = rw text_is (grind (arith, nat_tests))

pub returns-in_default-2 : goal.returns-in_default-2
returns-in_default-2 c = rw text_is (grind (arith, nat_tests))
