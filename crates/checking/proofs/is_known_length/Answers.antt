-- `checking::is_known_length` meets its contract. Assumes nothing.
use borrow.Author.Tests.{eq-eqb, ne_eqb}
use Rattle.checking.proofs.is_known_length.Goals as goal

pub returns-then-n-eq131 : goal.returns-then-n-eq131
returns-then-n-eq131 c = simp (eq-eqb _ _ c.if-n-eq131.true)

pub returns-else-n-eq131 : goal.returns-else-n-eq131
returns-else-n-eq131 c = simp (ne_eqb _ _ c.if-n-eq131.false)
