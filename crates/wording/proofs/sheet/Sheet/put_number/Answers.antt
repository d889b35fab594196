-- `Sheet::put_number` meets its contract: the last digits of a number, as many as it has, are its digits. Assumes nothing.
use Rattle.wording.proofs.WordingLaws.{as_decimal, decimal_short, one_place, two_places}
use native.Mathlib.Omega.{arith}
use Rattle.wording.proofs.sheet.Sheet.put_number.Goals as goal

pub returns-then-n-lt10 : goal.returns-then-n-lt10
returns-then-n-lt10 c = as_decimal _ _ (one_place _ (omega arith)) c.put_digits.ensures

pub returns-then-n-lt100 : goal.returns-then-n-lt100
returns-then-n-lt100 c = as_decimal _ _ (two_places _ (omega arith) (omega arith)) c.put_digits-then-n-lt100.ensures

pub put_digits-requires-2 : goal.put_digits-requires-2
put_digits-requires-2 c = omega (arith, decimal_short c.args.n)

pub returns : goal.returns
returns c = as_decimal _ _ c.places.ensures c.put_digits-2.ensures
