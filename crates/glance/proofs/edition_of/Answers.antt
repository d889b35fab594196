-- `glance::edition_of` meets its contract. Assumes nothing.
use Rattle.glance.proofs.Sound.{said}
use native.Mathlib.Omega.{arith}
use mathlib.Core.Path.{◌∙◌, ap, sym}
use lib.Dec.{lit≤}
use Rattle.layout.specs.declared.Edition.TheVariants.{One}
use Rattle.layout.specs.Editions.{edition_of}
use Rattle.layout.proofs.RecordLaws.{begins}
use Rattle.glance.proofs.edition_of.Goals as goal

pub first_byte-requires : goal.first_byte-requires
first_byte-requires c = omega (arith, begins One 65 (lit≤ tt) (lit≤ tt))

pub is_sure-requires : goal.is_sure-requires
is_sure-requires c =
    (c.if-line-length.false ∙ c.length.ensures, sym (c.of_digit.ensures ∙ ap edition_of c.first_byte.ensures) ∙ c.in_ok-edition.was)

pub returns : goal.returns
returns c = λ ed e. said _ _ ed e (c.is_sure.ensures c.if-not-is_sure.false)
