-- What each answer of the check leads to in words, and what is said of a line that is too long for a record. Assumes nothing.
use mathlib.Core.Path.{◌≡◌, refl, ap}
use mathlib.Core.Bool.{true, false}
use mathlib.Core.List.{List, ◌++◌}
use Prim.Native.Nat.{ℕ, ◌<◌, ◌≤◌}
use lib.ListN.{length}
use Rattle.layout.specs.declared.Edition.{Edition}
use Rattle.refusals.specs.declared.Refusal.{Refusal}
use Rattle.refusals.specs.declared.Refusal.TheVariants.{Length}
use Rattle.std.proofs.Common.{Ok, Err}
use Rattle.checking.specs.Check.{Answer, checked, call_sign_of}
use Rattle.checking.proofs.CheckLaws.{too_long}
use Rattle.wording.specs.declared.sheet.Sheet.{Sheet}
use Rattle.wording.specs.Puts.{Adds}
use Rattle.wording.proofs.PutLaws.{within}
use Rattle.report_lines.specs.Sentences.{accepted_line, call_sign_line, refused_line}
use Rattle.report_lines.specs.Says.{record_most, Says}
use Rattle.check_lines.specs.Sentences.{check_text, check_said, check_refused}

module _ (n : ℕ) (line : List ℕ) (a : Answer) (e : a ≡ checked line) {before after : Sheet} {most : ℕ} (short : most ≤ record_most) where
  pub accepted_told : (ed : Edition) (sign : List ℕ) → a ≡ Ok ed → sign ≡ call_sign_of (Ok ed) line → Adds (accepted_line n ed ++ call_sign_line n sign) most before after →
      Says (check_said n line) (check_refused line) before after false
  unfolding check_text
  accepted_told ed sign h g p = rw (← e, h) (record { adds = within short (rw g at p); refuses = refl })

  pub refused_told : (r : Refusal) → a ≡ Err r → Adds (refused_line n r) most before after → Says (check_said n line) (check_refused line) before after true
  unfolding check_text
  refused_told r h p = rw (← e, h) (record { adds = within short p; refuses = refl })

-- a line that is too long for a record
module _ (line : List ℕ) (long : 159 < length line) where
  pub long_said : (n : ℕ) → check_said n line ≡ refused_line n Length
  unfolding check_text
  long_said n = ap (check_text n line) (too_long line long)

  pub long_refused : check_refused line ≡ true
  long_refused = rw (too_long line long)
