-- `checking::show_call_sign` meets its contract. Assumes nothing.
use Rattle.checking.proofs.Demand2Acceptance.{accepted_exactly}
use Rattle.checking.specs.Check.{call_sign_of, Answer}
use mathlib.Core.Path.{◌∙◌, ap, sym}
use Rattle.checking.proofs.show_call_sign.Goals as goal

pub call_sign_after-requires : goal.call_sign_after-requires
call_sign_after-requires c = λ ed a. ((accepted_exactly _ ed).0 (sym c.check.ensures ∙ a)).full

pub returns : goal.returns
returns c = c.call_sign_after.ensures.result_value ∙ ap (λ (a : Answer). call_sign_of a c.args.line.now) c.check.ensures
