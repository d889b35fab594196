-- `checking::check_in` meets its contract. Assumes nothing.
use mathlib.Core.Path.{◌∙◌, sym}
use Rattle.checking.proofs.CheckLaws.{accepted, broken, illegal, wrong_length}
use Rattle.checking.proofs.check_in.Goals as goal

pub returns-then-line-length : goal.returns-then-line-length
returns-then-line-length c = wrong_length _ _ (λ e. c.if-line-length.true (e ∙ sym c.length.ensures))

pub returns-in-Some : goal.returns-in-Some
returns-in-Some c = illegal _ _ (c.if-line-length.false ∙ c.length.ensures) _ (sym c.in-Some.ensures)

pub returns-in-Some-first_broken : goal.returns-in-Some-first_broken
returns-in-Some-first_broken c = broken _ _ (c.if-line-length.false ∙ c.length.ensures) (sym c.in_default.ensures) _ (sym c.in-Some-first_broken.ensures)

pub returns : goal.returns
returns c = accepted _ _ (c.if-line-length.false ∙ c.length.ensures) (sym c.in_default.ensures) (sym c.in_default-first_broken.ensures)
