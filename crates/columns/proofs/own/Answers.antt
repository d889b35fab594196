-- `columns::own` meets its contract. Assumes nothing.
use mathlib.Core.Path.{ap, sym, subst, ◌∙◌}
use Rattle.layout.specs.declared.Edition.{Edition}
use Rattle.layout.specs.Editions.{length_of}
use Rattle.columns.specs.Tables.{Own}
use Rattle.columns.proofs.own.Goals as goal

pub own-requires : goal.own-requires
own-requires c = c.requires ∙ ap length_of c.in-One.is

pub own-requires-in-Three : goal.own-requires-in-Three
own-requires-in-Three c = c.requires ∙ ap length_of c.in-Three.is

pub own-requires-in-Four : goal.own-requires-in-Four
own-requires-in-Four c = c.requires ∙ ap length_of c.in-Four.is

pub returns-in-One : goal.returns-in-One
returns-in-One c =
    λ z. subst (λ (ed : Edition). Own ed c.args.line.now) (sym c.in-One.is) (c.own.ensures z)

pub returns-in-Three : goal.returns-in-Three
returns-in-Three c =
    λ z. subst (λ (ed : Edition). Own ed c.args.line.now) (sym c.in-Three.is) (c.own-in-Three.ensures z)

pub returns-in-Four : goal.returns-in-Four
returns-in-Four c =
    λ z. subst (λ (ed : Edition). Own ed c.args.line.now) (sym c.in-Four.is) (c.own-in-Four.ensures z)
