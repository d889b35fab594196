-- `spelling::numeral_for` meets its contract. Assumes nothing.
use Rattle.spelling.proofs.SpellLaws.{amount_fits, place_fits}
use Rattle.spelling.proofs.numeral_for.Goals as goal

pub returns-in-Amount-clause-base_nonzero : goal.returns-in-Amount-clause-base_nonzero
returns-in-Amount-clause-base_nonzero c = rw c.amount_numeral.ensures (amount_fits _ _ _)

pub returns-in-At-clause-base_nonzero : goal.returns-in-At-clause-base_nonzero
returns-in-At-clause-base_nonzero c = rw c.place_numeral.ensures (place_fits _ _ _)
