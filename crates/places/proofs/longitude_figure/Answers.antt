-- `places::longitude_figure` meets its contract. Assumes nothing.
use Rattle.places.specs.Places.{tenths, east, longitude_figure}
use mathlib.Core.Bool.{Bool}
use mathlib.Core.Path.{◌∙◌, ap}
use Rattle.places.proofs.longitude_figure.Goals as goal

pub returns : goal.returns
unfolding longitude_figure
returns c = c.tenths_of.ensures ∙ ap tenths (c.east_of.ensures ∙ ap (λ (b : Bool). east b c.args.place.longitude) c.is_west.ensures)
