-- `places::latitude_figure` meets its contract. Assumes nothing.
use Rattle.places.specs.Places.{tenths, latitude_figure}
use Rattle.signs.proofs.Signs.{itself}
use lib.IntN.{nat_abs}
use mathlib.Core.Path.{◌∙◌, ap}
use Rattle.places.proofs.latitude_figure.Goals as goal

pub returns : goal.returns
unfolding latitude_figure
returns c =
    c.tenths_of.ensures ∙ ap tenths (c.unsigned_abs.ensures.value ∙ ap nat_abs (itself c.args.place.latitude (record { sfits = c.struct_told-1.given.0.1 })))
