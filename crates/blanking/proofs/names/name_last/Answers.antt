-- `blanking::names::name_last` meets its contract. Assumes nothing.
use mathlib.Core.Path.{sym, ◌∙◌}
use native.Mathlib.Omega.{arith}
use Rattle.blanking.proofs.RowLaws.{first_length, other_length}
use Rattle.blanking.proofs.LossLaws.{last_none, in_none, in_some}
use Rattle.blanking.proofs.names.name_last.Goals as goal

pub returns-then-is_first : goal.returns-then-is_first
returns-then-is_first c =
    last_none c.args.line.now _ _ (c.requires ∙ first_length c.args.way.from (sym c.is_first.ensures ∙ c.if-is_first.true))

pub name_filled-requires : goal.name_filled-requires
name_filled-requires c =
    omega (arith, c.requires, other_length c.args.way.from (sym c.is_first.ensures ∙ c.if-is_first.false))

pub returns-then-is_first-2 : goal.returns-then-is_first-2
returns-then-is_first-2 c =
    in_none c.args.way.to _ (sym c.is_first-2.ensures ∙ c.if-is_first-2.true) c.args.line.now _ c.name_filled.ensures

pub name_later-requires : goal.name_later-requires
name_later-requires c =
    omega (arith, c.requires, other_length c.args.way.from (sym c.is_first.ensures ∙ c.if-is_first.false))

pub returns : goal.returns
returns c =
    in_some c.args.way.to _ _ (sym c.is_first-2.ensures ∙ c.if-is_first-2.false) c.is_leaving.ensures c.args.line.now _ c.name_later.ensures
