-- Demand 2 in what readings says: writing back what was read of an accepted record gives the record, so that no report says 'written other'.
-- Assumes nothing.
--     never_other   of an accepted record the readings give the record back
use mathlib.Core.Path.{◌≡◌, refl, ap, ◌∙◌}
use mathlib.Core.Bool.{true}
use mathlib.Core.List.{List, [], ◌∷◌}
use Prim.Native.Nat.{ℕ}
use borrow.Author.Tests.{eq-eqb}
use native.Mathlib.Omega.{arith}
use Rattle.refusals.specs.Lent.{Call, writing, Quiet, quiet, in_room}
use Rattle.refusals.proofs.LentLaws.{has_room}
use Rattle.layout.specs.declared.Edition.{Edition}
use Rattle.layout.specs.Editions.{edition_number}
use Rattle.layout.proofs.RecordLaws.{by_number, most}
use Rattle.std.proofs.Common.{Option, Ok}
use Rattle.checking.specs.Check.{checked}
use Rattle.checking.proofs.Demand2Acceptance.{accepted_exactly}
use Rattle.reading.specs.Answers.{read_of}
use Rattle.reading.proofs.Demand2Readings.{reads_each}
use Rattle.writing.specs.Written.{written_as, written}
use Rattle.writing.proofs.Demand2Back.{written_back_lem}
use Rattle.reading_lines.specs.Sentences.{same_text, gives_back, written_back}

-- a text is the same as itself
itself : (t : List ℕ) → same_text t t ≡ true
unfolding same_text
itself [] = refl
itself (b ∷ t) = rw (eq-eqb b b refl) (itself t)

pub never_other : (ed : Edition) (line : List ℕ) → checked line ≡ Ok ed → written_back ed ((read_of line).entries) line ≡ true
unfolding gives_back written_as
never_other ed line accepted =
    let a = (accepted_exactly line ed).0 accepted in
    let rs = (read_of line).entries in
    let back : written rs (edition_number ed) ≡ writing quiet line = ap (λ (m : Option Edition). written_as m rs) (by_number ed) ∙ written_back_lem ed line a rs (reads_each ed line accepted) in
    ap (λ (c : Call Quiet). gives_back (in_room 159 c) line) back ∙ ap (λ (c : Call Quiet). gives_back c line) (has_room quiet line 159 (omega (arith, a.full, most ed))) ∙ itself line
