-- `writing::is_accepted` meets its contract. Assumes nothing.
use Rattle.std.proofs.Common.{◌≡◌, Ok, sym, ap, ◌∙◌}
use Rattle.std.proofs.lemmas.Grind.{common_steps}
use native.Mathlib.Omega.{arith}
use mathlib.Core.Bool.{false≢true}
use Rattle.writing.proofs.is_accepted.Goals as goal

pub returns-in-Ok : goal.returns-in-Ok
returns-in-Ok c = λ t.
    let same : c.in-Ok.held ≡ c.args.edition = grind (arith, common_steps, c.eq.ensures) in
    sym c.check.ensures ∙ c.in-Ok.is ∙ ap Ok same

pub returns-in-Err : goal.returns-in-Err
returns-in-Err c = λ t. absurd (false≢true t)
