-- `recasting::fill_rest` meets its contract. Assumes nothing.
use mathlib.Core.Path.{sym, ◌∙◌}
use native.Mathlib.Omega.{arith}
use Rattle.numerals.specs.Numerals.{spelled}
use Rattle.blanking.proofs.RowLaws.{other_length}
use Rattle.recasting.specs.Recast.{blanks}
use Rattle.recasting.proofs.FillLaws.{whole_copy, rest_blank, rest_own, own_long}
use Rattle.recasting.proofs.fill_rest.Goals as goal

pub returns-then-is_first : goal.returns-then-is_first
unfolding spelled
returns-then-is_first c =
    whole_copy (blanks 28) c.args.rest.now _ (sym c.requires.1) c.copy.ensures ∙ rest_blank c.args.from c.args.line.now c.requires.0 (sym c.is_first.ensures ∙ c.if-is_first.true)

pub slice_bounds-copy-end-2 : goal.slice_bounds-copy-end-2
slice_bounds-copy-end-2 c =
    omega (arith, c.requires.0, other_length c.args.from (sym c.is_first.ensures ∙ c.if-is_first.false))

pub returns : goal.returns
returns c =
    let own = sym c.is_first.ensures ∙ c.if-is_first.false in
    whole_copy _ _ _ (own_long c.args.from c.args.line.now c.requires.0 own ∙ sym c.requires.1) c.copy-2.ensures ∙ rest_own c.args.from c.args.line.now c.requires.0 own
