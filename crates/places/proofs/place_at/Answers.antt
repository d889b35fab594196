-- `places::place_at` meets its contract. Assumes nothing.
use Rattle.places.proofs.PlaceLaws.{place_is}
use mathlib.Core.Path.{◌∙◌, ap}
use mir.Facts.{to_z-of_z}
use mir.Syntax.{w64}
use Rattle.places.specs.Places.{south, west}
use Rattle.places.proofs.place_at.Goals as goal

pub returns : goal.returns
returns c =
    let digit = c.from-digit.ensures in
    place_is _ _ _ _ _ _ _ _ _ _ _ (c.is_south.ensures ∙ ap (south c.args.edition) digit) (c.is_west.ensures ∙ ap (west c.args.edition) digit) c.hundredths_of.ensures.value c.hundredths_of-2.ensures.value digit
    (to_z-of_z {w = w64} {z = c.signed_of.result} (record { sfits = c.signed_of.type_inv }) ∙ c.signed_of.ensures) c.east_of.ensures
