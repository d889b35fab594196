-- `places::column_12::may_stand` meets its contract. Assumes nothing.
use mathlib.Core.Logic.{⊎_elim}
use mathlib.Core.Path.{◌∙◌, sym}
use Rattle.layout.specs.declared.Edition.TheVariants.{One, Three, Four}
use Rattle.places.proofs.DigitLaws.{digit_stands, stands_at}
use Rattle.places.proofs.column_12.may_stand.Goals as goal

pub returns-in-One : goal.returns-in-One
returns-in-One c = c.is_either.ensures ∙ sym (digit_stands One _ c.requires) ∙ stands_at _ c.in-One.is

pub returns-in-Three : goal.returns-in-Three
returns-in-Three c =
    c.is_among.ensures ∙ ⊎_elim (λ e. sym (digit_stands Three _ c.requires) ∙ stands_at _ e) (λ e. sym (digit_stands Four _ c.requires) ∙ stands_at _ e) c.in-Three.is
