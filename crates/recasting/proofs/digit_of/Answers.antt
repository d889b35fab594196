-- `recasting::digit_of` meets its contract. Assumes nothing.
use Prim.Native.Nat.{◌≤◌}
use native.Mathlib.Omega.{arith}
use lib.Dec.{lit≤}
use Rattle.layout.specs.declared.Edition.{Edition}
use Rattle.layout.specs.declared.Edition.TheVariants.{One, Three, Four}
use Rattle.layout.specs.Editions.{edition_number}
use Rattle.recasting.proofs.digit_of.Goals as goal

-- a number of one digit
one_digit : (ed : Edition) → edition_number ed ≤ 9
one_digit One = lit≤ tt
one_digit Three = lit≤ tt
one_digit Four = lit≤ tt

pub overflow_add-result : goal.overflow_add-result
overflow_add-result c = omega (arith, c.number.ensures, one_digit c.args.edition)

pub overflow_cast-result : goal.overflow_cast-result
overflow_cast-result c = omega (arith, c.number.ensures, one_digit c.args.edition)
