-- `glance::is_sure` meets its contract. Assumes nothing.
use native.Mathlib.Omega.{arith}
use borrow.Author.Tests.{not-true}
use Rattle.std.proofs.Common.{rules}
use Rattle.std.proofs.lemmas.Bool.{or_parts}
use Rattle.layout.proofs.RecordLaws.{shortest}
use Rattle.glance.proofs.Sound.{surely_sound}
use Rattle.glance.proofs.is_sure.Goals as goal

pub shared-requires : goal.shared-requires
shared-requires c = omega (arith, c.requires.0, shortest c.args.edition)

pub alike-requires : goal.alike-requires
alike-requires c = omega (arith, c.requires.0, shortest c.args.edition)

pub returns : goal.returns
returns c = λ e.
    let p = or_parts _ _ c.if-shared-alike.false in
    surely_sound _ _ c.requires.0 c.requires.1 (c.shared.ensures p.0) (c.alike.ensures p.1) (c.own.ensures (search rules)) (c.rest.ensures (not-true _ e))
