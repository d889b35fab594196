-- `check_lines::tell` meets its contract. Assumes nothing.
use Rattle.check_lines.proofs.CheckTold.{accepted_told, refused_told}
use Rattle.checking.proofs.Demand2Acceptance.{accepted_exactly}
use Rattle.wording.proofs.PutLaws.{then_at}
use mathlib.Core.Path.{refl, ◌∙◌, sym}
use native.Mathlib.Omega.{arith}
use Rattle.check_lines.proofs.tell.Goals as goal

pub call_sign_after-sign-requires : goal.call_sign_after-sign-requires
call_sign_after-sign-requires c = λ ed a. ((accepted_exactly _ ed).0 (sym c.check-answer.ensures ∙ c.in-Ok.is ∙ a)).full

pub returns-in-Ok : goal.returns-in-Ok
returns-in-Ok c =
    accepted_told _ c.args.line.now _ c.check-answer.ensures (omega arith) _ _ c.in-Ok.is c.call_sign_after-sign.ensures.result_value (then_at c.put_accepted.ensures refl refl c.put_call_sign.ensures)

pub returns-in-Err : goal.returns-in-Err
returns-in-Err c = refused_told _ c.args.line.now _ c.check-answer.ensures (omega arith) _ c.in-Err.is c.put_refused.ensures
