-- `trial::trial_read` meets its contract: it stores and returns what `read` answers. Assumes nothing.
use Rattle.refusals.specs.Verdicts.{verdict_number, verdict_place}
use Rattle.checking.specs.Check.{answer_verdict}
use Rattle.reading.specs.Answers.{read_as, read_of}
use Rattle.reading.specs.declared.Readings.{Readings}
use Rattle.trial.proofs.PackedLaws.{amounts_long, laid, numbers_long, room_there, unlaid}
use Rattle.trial.specs.Packed.{amounts_of, edition_in, numbers_of}
use lib.ListN.{drop}
use mathlib.Core.List.{◌++◌}
use mathlib.Core.Path.{◌∙◌, ap, sym}
use Rattle.trial.proofs.trial_read.Goals as goal

pub put_all-requires : goal.put_all-requires
put_all-requires c =
    room_there c.args.numbers.now c.args.amounts.now (sym c.has_room.ensures ∙ c.if-has_room.true)

pub returns-then-has_room-clause-value : goal.returns-then-has_room-clause-value
returns-then-has_room-clause-value c =
    let read = c.read-all.ensures in
    let verdict = c.verdict_of-verdict.ensures ∙ ap (λ (r : Readings). answer_verdict r.answer) read in
    c.number_of-number.ensures ∙ ap verdict_number verdict

pub returns-then-has_room-clause-numbers_after : goal.returns-then-has_room-clause-numbers_after
returns-then-has_room-clause-numbers_after c =
    let read = c.read-all.ensures in
    let es = (read_of c.args.line.now).entries in
    let there = sym c.has_room.ensures ∙ c.if-has_room.true in
    laid _ (numbers_of es) c.args.numbers.now _ 404 there (numbers_long (read_as es) 1 101) (c.put_all.ensures.numbers_after ∙ ap (λ (r : Readings). numbers_of r.entries ++ drop 404 c.args.numbers.now) read)

pub returns-then-has_room-clause-amounts_after : goal.returns-then-has_room-clause-amounts_after
returns-then-has_room-clause-amounts_after c =
    let read = c.read-all.ensures in
    let es = (read_of c.args.line.now).entries in
    let there = sym c.has_room.ensures ∙ c.if-has_room.true in
    laid _ (amounts_of es) c.args.amounts.now _ 101 there (amounts_long (read_as es) 1 101) (c.put_all.ensures.amounts_after ∙ ap (λ (r : Readings). amounts_of r.entries ++ drop 101 c.args.amounts.now) read)

pub returns-then-has_room-clause-edition_after : goal.returns-then-has_room-clause-edition_after
returns-then-has_room-clause-edition_after c =
    let read = c.read-all.ensures in
    c.edition_in-held.ensures ∙ ap (λ (r : Readings). edition_in r.answer) read

pub returns-then-has_room-clause-place_after : goal.returns-then-has_room-clause-place_after
returns-then-has_room-clause-place_after c =
    let read = c.read-all.ensures in
    let verdict = c.verdict_of-verdict.ensures ∙ ap (λ (r : Readings). answer_verdict r.answer) read in
    c.place_of-at.ensures ∙ ap verdict_place verdict

pub returns-else-has_room-clause-value : goal.returns-else-has_room-clause-value
returns-else-has_room-clause-value c =
    let read = c.read-all.ensures in
    let verdict = c.verdict_of-verdict.ensures ∙ ap (λ (r : Readings). answer_verdict r.answer) read in
    c.number_of-number.ensures ∙ ap verdict_number verdict

pub returns-else-has_room-clause-numbers_after : goal.returns-else-has_room-clause-numbers_after
returns-else-has_room-clause-numbers_after c =
    let es = (read_of c.args.line.now).entries in
    let none = sym c.has_room.ensures ∙ c.if-has_room.false in
    unlaid _ (numbers_of es) _ none

pub returns-else-has_room-clause-amounts_after : goal.returns-else-has_room-clause-amounts_after
returns-else-has_room-clause-amounts_after c =
    let es = (read_of c.args.line.now).entries in
    let none = sym c.has_room.ensures ∙ c.if-has_room.false in
    unlaid _ (amounts_of es) _ none

pub returns-else-has_room-clause-edition_after : goal.returns-else-has_room-clause-edition_after
returns-else-has_room-clause-edition_after c =
    let read = c.read-all.ensures in
    c.edition_in-held.ensures ∙ ap (λ (r : Readings). edition_in r.answer) read

pub returns-else-has_room-clause-place_after : goal.returns-else-has_room-clause-place_after
returns-else-has_room-clause-place_after c =
    let read = c.read-all.ensures in
    let verdict = c.verdict_of-verdict.ensures ∙ ap (λ (r : Readings). answer_verdict r.answer) read in
    c.place_of-at.ensures ∙ ap verdict_place verdict
