-- `blanking::blank_lost` meets its contract. Assumes nothing.
use mathlib.Core.Path.{sym, ◌∙◌}
use native.Mathlib.Omega.{arith}
use Rattle.layout.proofs.RecordLaws.{shortest}
use Rattle.blanking.proofs.RowLaws.{other_length, in_first, in_others}
use Rattle.blanking.proofs.blank_lost.Goals as goal

pub blank_shared-requires : goal.blank_shared-requires
blank_shared-requires c = omega (arith, c.requires.0, shortest c.args.way.to)

pub returns-then-is_first : goal.returns-then-is_first
returns-then-is_first c =
    in_first c.args.way.from c.args.way.to _ c.requires.0 c.requires.1 (sym c.is_first.ensures ∙ c.if-is_first.true) _ c.blank_shared.ensures

pub blank_later-requires : goal.blank_later-requires
blank_later-requires c =
    omega (arith, c.requires.0, other_length c.args.way.to (sym c.is_first.ensures ∙ c.if-is_first.false), c.blank_shared.auto.row)

pub returns : goal.returns
returns c =
    in_others c.args.way.from c.args.way.to _ c.requires.0 c.requires.1 (sym c.is_first.ensures ∙ c.if-is_first.false) _ _ _ c.blank_shared.ensures c.is_leaving.ensures c.blank_later.ensures
