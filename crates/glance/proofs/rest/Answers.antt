-- `glance::rest` meets its contract. Assumes nothing.
use native.Mathlib.Omega.{arith}
use mathlib.Core.Path.{◌∙◌, ap, sym, subst}
use lib.Dec.{lit≤}
use Rattle.layout.specs.declared.Edition.{Edition}
use Rattle.layout.specs.Editions.{length_of}
use Rattle.layout.proofs.Beyond.{last_above}
use Rattle.layout.proofs.RecordLaws.{ends, begins}
use Rattle.glance.specs.Sure.{Rest}
use Rattle.glance.proofs.rest.Goals as goal

pub first_byte-requires : goal.first_byte-requires
first_byte-requires c = omega (arith, c.requires, begins c.args.edition 6 (lit≤ tt) (omega (arith, last_above c.args.edition)))

pub word_of-requires : goal.word_of-requires
word_of-requires c =
    omega (arith, c.requires, ends c.args.edition 8 (omega (arith, last_above c.args.edition)))

pub later_off-requires : goal.later_off-requires
later_off-requires c = c.requires ∙ ap length_of c.in-Three.is

pub later_off-requires-in-Four : goal.later_off-requires-in-Four
later_off-requires-in-Four c = c.requires ∙ ap length_of c.in-Four.is

pub returns-in-Three : goal.returns-in-Three
returns-in-Three c =
    λ z. subst (λ (ed : Edition). Rest ed c.args.line.now) (sym c.in-Three.is) (c.later_off.ensures z)

pub returns-in-Four : goal.returns-in-Four
returns-in-Four c =
    λ z. subst (λ (ed : Edition). Rest ed c.args.line.now) (sym c.in-Four.is) (c.later_off-in-Four.ensures z)
