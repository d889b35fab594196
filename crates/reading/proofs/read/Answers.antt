-- `reading::read` meets its contract. Assumes nothing.
use Rattle.checking.proofs.Demand2Acceptance.{accepted_exactly}
use mathlib.Core.Path.{◌∙◌, sym}
use Rattle.reading.proofs.read.Goals as goal

pub read_after-requires : goal.read_after-requires
read_after-requires c = λ ed a. ((accepted_exactly _ ed).0 (sym c.check.ensures ∙ a)).full
