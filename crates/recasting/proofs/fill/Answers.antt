-- `recasting::fill` meets its contract. Assumes nothing.
use mathlib.Core.Path.{sym, ◌∙◌}
use native.Mathlib.Omega.{arith}
use Rattle.layout.proofs.RecordLaws.{shortest}
use Rattle.recasting.proofs.FillLaws.{front_long, mid_long, filled_first, rest_long, filled_other}
use Rattle.recasting.proofs.fill.Goals as goal

pub slice_bounds-copy-end : goal.slice_bounds-copy-end
slice_bounds-copy-end c =
    sym (front_long c.args.way.from c.args.line.now c.requires.0)

pub copy-requires : goal.copy-requires
copy-requires c =
    omega (arith, c.requires.1, front_long c.args.way.from c.args.line.now c.requires.0, shortest c.args.way.to)

pub returns-then-is_first : goal.returns-then-is_first
returns-then-is_first c =
    filled_first c.args.way.from c.args.line.now c.requires.0 c.args.way.to _ _ c.requires.1 c.copy.ensures (sym c.is_first.ensures ∙ c.if-is_first.true)

pub slice_bounds-rest-count : goal.slice_bounds-rest-count
slice_bounds-rest-count c =
    omega (arith, mid_long c.args.way.from c.args.line.now c.requires.0 c.args.way.to _ _ c.requires.1 c.copy.ensures, shortest c.args.way.to)

pub slice_bounds-rest-start : goal.slice_bounds-rest-start
slice_bounds-rest-start c =
    omega (arith, mid_long c.args.way.from c.args.line.now c.requires.0 c.args.way.to _ _ c.requires.1 c.copy.ensures, shortest c.args.way.to)

pub fill_rest-requires : goal.fill_rest-requires
fill_rest-requires c =
    (c.requires.0, rest_long c.args.way.from c.args.line.now c.requires.0 c.args.way.to _ _ c.requires.1 c.copy.ensures (sym c.is_first.ensures ∙ c.if-is_first.false))

pub returns : goal.returns
returns c =
    filled_other c.args.way.from c.args.line.now c.requires.0 c.args.way.to _ _ c.requires.1 c.copy.ensures (sym c.is_first.ensures ∙ c.if-is_first.false) _ c.fill_rest.ensures
