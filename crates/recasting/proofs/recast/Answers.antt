-- `recasting::recast` meets its contract. Assumes nothing.
use mathlib.Core.Path.{◌≡◌, refl}
use Rattle.std.proofs.Common.{rules}
use Rattle.std.specs.Prelude.{Option, None, Some, Err}
use Rattle.std.specs.Option.{is_some, ok_or}
use mathlib.Core.Bool.{false}
use Rattle.layout.specs.declared.Edition.{Edition}
use Rattle.refusals.specs.declared.Refusal.{Refusal}
use Rattle.refusals.specs.declared.Refusal.TheVariants.{Unheld}
use Rattle.refusals.proofs.LentLaws.{refuses, same_call}
use Rattle.recasting.specs.Recast.{recast_to, recast_after, outcome_of}
use Rattle.recasting.proofs.recast.Goals as goal

pub returns-in_err-from : goal.returns-in_err-from
unfolding recast_after
returns-in_err-from c =
    refuses _ _ outcome_of {r = c.in_err-from.field-0.0} (rw (← c.in_err-from.ensures) refl) (search rules)

-- what is not there is refused
unheld : (o : Option Edition) (r : Refusal) → false ≡ is_some o → Err r ≡ ok_or o Unheld → (o ≡ None) × (r ≡ Unheld)
unheld None r e f = (refl, cc)
unheld (Some ed) r e f = cc

pub returns-in_err-to : goal.returns-in_err-to
unfolding recast_after recast_to
returns-in_err-to c =
    let none = unheld c.of_number.result c.in_err-to.field-0.0 c.in_err-to.ensures.variant c.in_err-to.ensures.value in
    refuses _ _ outcome_of {r = c.in_err-to.field-0.0} (rw (← c.in_ok-from.ensures, ← c.of_number.ensures, none.0, none.1) refl) (search rules)

pub returns : goal.returns
unfolding recast_after recast_to
returns c =
    same_call _ _ outcome_of (rw (← c.in_ok-from.ensures, ← c.of_number.ensures, c.in_ok-to.ensures.ok_part) refl) c.recast_in.ensures
