-- `places::column_12::is_suited` meets its contract. Assumes nothing.
use mathlib.Core.Bool.{true≢false}
use mathlib.Core.Path.{sym, ◌∙◌}
use Rattle.places.proofs.DigitLaws.{not_standing, not_same, same_and}
use Rattle.places.proofs.column_12.is_suited.Goals.{then-may_stand, else-may_stand}
use Rattle.places.proofs.column_12.is_suited.Goals as goal

pub returns-then-is_same_place : goal.returns-then-is_same_place
returns-then-is_same_place c =
    elim c.if-may_stand.branch [
      | then-may_stand w ↦
          same_and _ _ _ _ _ _ _ c.may_stand.ensures w.if-may_stand.true _ (w.value-is ∙ w.is_same_place.ensures) c.if-is_same_place.true _ c.keeps_tie.ensures
      | else-may_stand w ↦ absurd (true≢false (sym c.if-is_same_place.true ∙ w.value-is ∙ w.if-may_stand.false))
    ]

pub returns-else-is_same_place : goal.returns-else-is_same_place
returns-else-is_same_place c =
    elim c.if-may_stand.branch [
      | then-may_stand w ↦ not_same _ _ _ _ _ _ _ c.may_stand.ensures w.if-may_stand.true _ (w.value-is ∙ w.is_same_place.ensures) c.if-is_same_place.false
      | else-may_stand w ↦ c.if-is_same_place.false ∙ not_standing _ _ _ _ _ _ _ c.may_stand.ensures w.if-may_stand.false
    ]
