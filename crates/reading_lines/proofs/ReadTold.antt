-- What each answer of the call that reads leads to in words, and what is said of a line that is too long for a record. Assumes nothing.
use mathlib.Core.Path.{◌≡◌, refl, sym, ap, ◌∙◌}
use mathlib.Core.Bool.{true, false}
use mathlib.Core.List.{List}
use Prim.Native.Nat.{ℕ, ◌<◌, ◌≤◌}
use lib.ListN.{length}
use Rattle.layout.specs.declared.Edition.{Edition}
use Rattle.refusals.specs.declared.Refusal.{Refusal}
use Rattle.refusals.specs.declared.Refusal.TheVariants.{Length}
use Rattle.layout.specs.Editions.{length_of}
use Rattle.std.proofs.Common.{Ok, Err}
use Rattle.checking.specs.Check.{Answer, answer_verdict}
use Rattle.checking.proofs.CheckLaws.{too_long}
use Rattle.checking.proofs.Demand2Acceptance.{accepted_exactly}
use Rattle.reading.specs.declared.Readings.{Readings}
use Rattle.reading.specs.Answers.{read_after, read_of}
use Rattle.reading.proofs.Request6Readings.{checks}
use Rattle.wording.specs.declared.sheet.Sheet.{Sheet}
use Rattle.wording.specs.Puts.{Adds}
use Rattle.wording.proofs.PutLaws.{within}
use Rattle.report_lines.specs.Sentences.{refused_line}
use Rattle.refusals.specs.Verdicts.{is_refused}
use Rattle.report_lines.specs.Says.{record_most, Says}
use Rattle.reading_lines.specs.Sentences.{read_text, read_said, read_refused}

-- an accepted record is as long as its edition's
pub accepted_long : (line : List ℕ) (all : Readings) (ed : Edition) → all ≡ read_of line → all.answer ≡ Ok ed → length line ≡ length_of ed
accepted_long line all ed e h = ((accepted_exactly line ed).0 (sym (checks line) ∙ ap (λ (q : Readings). q.answer) (sym e) ∙ h)).full

module _ (n : ℕ) (line : List ℕ) (all : Readings) (e : all ≡ read_of line) {before after : Sheet} {most : ℕ} (short : most ≤ record_most) where
  pub accepted_told : (ed : Edition) → all.answer ≡ Ok ed → Adds (read_text n line (Ok ed) all.entries) most before after →
      Says (read_said n line) (read_refused line) before after false
  accepted_told ed h p = rw (← e, h) (record { adds = within short p; refuses = refl })

  pub refused_told : (r : Refusal) → all.answer ≡ Err r → Adds (refused_line n r) most before after → Says (read_said n line) (read_refused line) before after true
  unfolding read_text
  refused_told r h p = rw (← e, h) (record { adds = within short p; refuses = refl })

-- a line that is too long for a record
module _ (line : List ℕ) (long : 159 < length line) where
  pub long_said : (n : ℕ) → read_said n line ≡ refused_line n Length
  unfolding read_after read_text
  long_said n = ap (λ (a : Answer). read_text n line (read_after a line).answer (read_after a line).entries) (too_long line long)

  pub long_refused : read_refused line ≡ true
  unfolding read_after
  long_refused = ap (λ (a : Answer). is_refused (answer_verdict (read_after a line).answer)) (too_long line long)
