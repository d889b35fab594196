-- `places::column_12::lowest_digit` meets its contract. Assumes nothing.
use mathlib.Core.Path.{refl, ap, ◌∙◌}
use Rattle.places.specs.Places.{south, west}
use Rattle.places.proofs.PlainLaws.{by_place}
use Rattle.places.proofs.column_12.lowest_digit.Goals as goal

pub returns : goal.returns
returns c =
    let from = c.args.way.from in
    let figures = c.args.figures in
    let digit = c.from-digit.ensures in
    by_place figures.latitude figures.longitude (c.is_plain.ensures c.if-not-is_plain.false) from c.args.way.to figures.digit _ _ _ refl
    (c.is_south.ensures ∙ ap (south from) digit) (c.is_west.ensures ∙ ap (west from) digit) _ c.plain_digit.ensures
