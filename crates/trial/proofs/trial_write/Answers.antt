-- `trial::trial_write` meets its contract: it stores and returns what `write` answers. Assumes nothing.
use Rattle.reading.specs.declared.Reading.{Reading}
use Rattle.refusals.specs.Verdicts.{verdict_number, verdict_place}
use Rattle.refusals.specs.Lent.{Call, Quiet, verdict_in, left_by}
use Rattle.writing.specs.Written.{written}
use lib.ListN.{length}
use mathlib.Core.List.{List}
use mathlib.Core.Path.{◌∙◌, ap}
use Rattle.trial.proofs.trial_write.Goals as goal

pub returns-clause-value : goal.returns-clause-value
returns-clause-value c =
    let args = c.args in
    let call = ap (λ (es : List Reading). written es args.edition) c.entries_of.ensures in
    let verdict = c.write-verdict.ensures.said ∙ ap (verdict_in (length args.buffer.now)) call in c.number_of-number.ensures ∙ ap verdict_number verdict

pub returns-clause-place_after : goal.returns-clause-place_after
returns-clause-place_after c =
    let args = c.args in
    let call = ap (λ (es : List Reading). written es args.edition) c.entries_of.ensures in
    let verdict = c.write-verdict.ensures.said ∙ ap (verdict_in (length args.buffer.now)) call in c.place_of-at.ensures ∙ ap verdict_place verdict

pub returns-clause-buffer_after : goal.returns-clause-buffer_after
returns-clause-buffer_after c =
    let args = c.args in
    let call = ap (λ (es : List Reading). written es args.edition) c.entries_of.ensures in
    c.write-verdict.ensures.left ∙ ap (λ (d : Call Quiet). left_by d args.buffer.now) call
