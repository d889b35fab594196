-- What the call that writes says of the record that the readings came from. Assumes nothing.
use mathlib.Core.Path.{◌≡◌, refl, sym, ap, ◌∙◌}
use mathlib.Core.Bool.{false}
use mathlib.Core.List.{List}
use Prim.Native.Nat.{ℕ}
use native.Mathlib.Omega.{arith}
use lib.ListN.{length, take}
use lib.Seq.{take_at}
use Rattle.layout.specs.declared.Edition.{Edition}
use Rattle.std.proofs.Common.{Option, Ok, Err}
use Rattle.refusals.specs.declared.Refusal.{Refusal}
use Rattle.layout.specs.Editions.{asked, edition_number, length_of}
use Rattle.layout.proofs.RecordLaws.{by_number}
use Rattle.reading.specs.declared.Reading.{Reading}
use Rattle.refusals.specs.Verdicts.{Verdict}
use Rattle.refusals.specs.Lent.{Call, refusing, writing, Quiet, in_room, verdict_of, front_of, overwritten, Answers}
use Rattle.refusals.proofs.LentLaws.{has_room, fine_means}
use Rattle.writing.specs.Written.{written, written_as, written_in}
use Rattle.writing.proofs.Demand2Written.{written_long}
use Rattle.reading_lines.specs.Sentences.{same_text, gives_back, written_back}

module _ (ed : Edition) (rs : List Reading) (line : List ℕ) {number : ℕ} (named : number ≡ edition_number ed) {before buffer : List ℕ} (room : length before ≡ 159) {v : Verdict}
    (w : Answers verdict_of (written rs number) before buffer v) where
  comes : in_room 159 (written rs (edition_number ed)) ≡ in_room (length before) (written rs number)
  comes = rw (named, room)

  pub back_done : (n : ℕ) → n ≡ length_of ed → v ≡ Ok tt → same_text (take n buffer) line ≡ written_back ed rs line
  unfolding gives_back written_as
  back_done n cut h =
      let wrote = fine_means (length before) (written rs number) (sym w.said ∙ h) in
      let is : written_in ed rs ≡ writing wrote.says wrote.bytes = sym (ap (λ (m : Option Edition). written_as m rs) (ap asked named ∙ by_number ed)) ∙ wrote.is in
      let fits : in_room (length before) (written rs number) ≡ writing wrote.says wrote.bytes = ap (in_room (length before)) wrote.is ∙ has_room _ _ _ wrote.fits in
      let front : take n buffer ≡ wrote.bytes =
      ap (take n) (w.left ∙ ap (λ (c : Call Quiet). overwritten (front_of c) before) fits) ∙ take_at wrote.bytes _ n (written_long ed rs is ∙ sym cut) in
      ap (λ (t : List ℕ). same_text t line) front ∙ sym (ap (λ (c : Call Quiet). gives_back c line) (comes ∙ fits))

  pub back_not : {r : Refusal} → v ≡ Err r → false ≡ written_back ed rs line
  unfolding gives_back
  back_not {r} h = by (in_room (length before) (written rs number)) (sym w.said ∙ h) ∙ sym (ap (λ (c : Call Quiet). gives_back c line) comes)
    where
      by : (c : Call Quiet) → verdict_of c ≡ Err r → false ≡ gives_back c line
      by (refusing s) f = refl
      by (writing q bytes) f = let z : ◌≡◌ {A = ℕ} 0 1 = cc in absurd (omega arith)
