-- `writing::write` meets its contract. Assumes nothing.
use Rattle.std.proofs.Common.{◌≡◌, Option, Some, None, Err, ap, sym, arith}
use Rattle.std.proofs.lemmas.Grind.{common_steps}
use Rattle.layout.specs.declared.Edition.{Edition}
use Rattle.layout.specs.Editions.{asked}
use Rattle.refusals.specs.declared.Refusal.TheVariants.{Unheld}
use Rattle.refusals.specs.Lent.{verdict_of}
use Rattle.refusals.proofs.LentLaws.{refuses, same_call}
use Rattle.writing.specs.Written.{written_as}
use Rattle.writing.proofs.write.Goals as goal

pub returns-in_err-held : goal.returns-in_err-held
unfolding written_as
returns-in_err-held c =
    let none : asked c.args.edition ≡ None = grind (arith, common_steps) in
    let said : c.from_residual.result ≡ Err Unheld = grind (arith, common_steps) in
    refuses _ _ verdict_of (ap (λ (q : Option Edition). written_as q c.args.entries) none) said

pub returns : goal.returns
unfolding written_as
returns c =
    let some : asked c.args.edition ≡ Some c.in_ok-held.held = grind (arith, common_steps) in
    same_call _ _ verdict_of (ap (λ (q : Option Edition). written_as q c.args.entries) (sym some)) c.write_in.ensures
