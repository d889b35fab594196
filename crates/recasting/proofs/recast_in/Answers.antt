-- `recasting::recast_in` meets its contract. Assumes nothing.
use mathlib.Core.Path.{ap, refl, sym, ◌∙◌}
use Rattle.text.proofs.Parts.{front_length}
use Rattle.refusals.proofs.LentLaws.{cramped, writes}
use Rattle.recasting.specs.Recast.{recast_to, outcome_of, done}
use Rattle.recasting.proofs.RecastLaws.{filled, fitting, not_fitting, own_texts}
use Rattle.recasting.proofs.recast_in.Goals as goal

pub returns-then-buffer-length : goal.returns-then-buffer-length
unfolding recast_to
returns-then-buffer-length c =
    cramped _ _ outcome_of refl (not_fitting _ _ _ _ c.length-length.ensures c.requires c.if-buffer-length.true) refl

pub slice_bounds-row-end-2 : goal.slice_bounds-row-end-2
slice_bounds-row-end-2 c = front_length c.length-length.result _ c.if-buffer-length.false

pub make-requires : goal.make-requires
make-requires c =
    (c.requires, sym (front_length c.length-length.result c.args.buffer.now c.if-buffer-length.false) ∙ c.length-length.ensures)

pub losses_of-requires : goal.losses_of-requires
losses_of-requires c =
    own_texts _ _ c.requires

pub returns : goal.returns
unfolding recast_to
returns c =
    writes _ _ outcome_of refl (fitting _ _ _ _ c.length-length.ensures c.requires c.if-buffer-length.false) (filled _ _ _ _ c.length-length.ensures c.requires _ _ c.make.ensures)
    (ap done c.losses_of.ensures)
