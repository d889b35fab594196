-- `blanking::blank_shared` meets its contract. Assumes nothing.
use Rattle.blanking.specs.LostBytes.{codes_lost, country_lost, version_lost, flags_lost, shared_lost}
use Rattle.blanking.proofs.Blanked.{then_by, tested}
use Rattle.blanking.proofs.blank_shared.Goals as goal

pub returns : goal.returns
unfolding shared_lost
returns c =
    then_by _ _ _ _ _
    (then_by _ _ _ _ _
    (then_by _ _ _ _ _ (tested codes_lost _ _ c.is_change.ensures _ _ c.blank_codes.ensures)
    (tested country_lost _ _ c.is_crossing.ensures _ _ c.blank_country.ensures))
    (tested version_lost _ _ c.is_leaving.ensures _ _ c.blank_version.ensures))
    (tested flags_lost _ _ c.is_leaving-2.ensures _ _ c.blank_flags.ensures)
