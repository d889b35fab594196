-- The first 160 bytes of a line tell all that there is to tell of it: no record is longer than 159. Assumes nothing.
use Rattle.std.specs.Prelude.{None, Option}
use mathlib.Core.Path.{◌≡◌, refl, sym, ap, ◌∙◌}
use mathlib.Core.Bool.{Bool, true, false}
use mathlib.Core.List.{List, [], ◌∷◌, ◌++◌}
use Prim.Native.Nat.{ℕ, ◌<◌}
use native.Mathlib.Omega.{arith}
use borrow.Author.Tests.{leb-true, leb-false, ltb-true, ltb-false, ne_eqb}
use lib.Dec.{leb, ltb}
use lib.ListN.{length, take, length-append}
use lib.Seq.{take_all, take-append-le, length-take-le}
use Rattle.refusals.specs.declared.Refusal.TheVariants.{Length}
use Rattle.layout.specs.declared.Edition.{Edition}
use Rattle.report_lines.specs.Sentences.{refused_line}
use Rattle.check_lines.proofs.CheckTold as Checked
use Rattle.reading_lines.proofs.ReadTold as Read
use Rattle.recast_lines.proofs.LongLaws as Recasts
use Rattle.reporting.specs.declared.Job.{Job}
use Rattle.reporting.specs.declared.Job.TheVariants.{Check, Readings, Recast}
use Rattle.reporting.specs.declared.Stage.{Stage}
use Rattle.reporting.specs.declared.Stage.TheVariants.{Asking, Closed, Telling}
use Rattle.reporting.specs.declared.Ledger.{Ledger}
use Rattle.reporting.specs.Report.{said_for, refused_for, asked_by}
use Rattle.reporting.specs.Run.{ledger, ledger_in, ledger_after, said_in, said_of, opened, opening, one_more, refused_after, kept}

-- a line that is too long for a record is refused for its length, whatever the job, and asks for no edition
module _ (line : List ℕ) (long : 159 < length line) where
  long_said : (job : Job) (n : ℕ) → said_for job n line ≡ refused_line n Length
  long_said Check n = Checked.long_said line long n
  long_said Readings n = Read.long_said line long n
  long_said (Recast edition) n = Recasts.long_said line long edition n

  long_refused : (job : Job) → refused_for job line ≡ true
  long_refused Check = Checked.long_refused line long
  long_refused Readings = Read.long_refused line long
  long_refused (Recast edition) = Recasts.long_refused line long edition

  long_asked : asked_by line ≡ None
  unfolding asked_by
  long_asked = rw (ne_eqb (length line) 1 (λ e. omega arith))

-- whatever is the same of all lines of more than 159 bytes is the same of a line and of its first 160 bytes
module _ {A : Type 0} (tell : List ℕ → A) (a : A) (same : (line : List ℕ) → 159 < length line → tell line ≡ a) where
  cut : (line : List ℕ) → tell (take 160 line) ≡ tell line
  cut line = by (leb (length line) 160) refl
    where
      by : (x : Bool) → leb (length line) 160 ≡ x → tell (take 160 line) ≡ tell line
      by true e = ap tell (take_all 160 line (leb-true _ _ e))
      by false e =
          let long = leb-false (length line) 160 e in
          same (take 160 line) (omega (arith, length-take-le 160 line (omega arith))) ∙ sym (same line (omega arith))

said_for_cut : (job : Job) (n : ℕ) (line : List ℕ) → said_for job n (take 160 line) ≡ said_for job n line
said_for_cut job n = cut (λ line. said_for job n line) (refused_line n Length) (λ line long. long_said line long job n)

refused_cut : (job : Job) (line : List ℕ) → refused_for job (take 160 line) ≡ refused_for job line
refused_cut job = cut (λ line. refused_for job line) true (λ line long. long_refused line long job)

asked_cut : (line : List ℕ) → asked_by (take 160 line) ≡ asked_by line
asked_cut = cut asked_by None long_asked

said_in_cut : (s : Stage) (n : ℕ) (line : List ℕ) → said_in s n (take 160 line) ≡ said_in s n line
said_in_cut Asking n line = ap opening (asked_cut line)
said_in_cut Closed n line = refl
said_in_cut (Telling job) n line = said_for_cut job (one_more n) line

ledger_in_cut : (s : Stage) (n m : ℕ) (line : List ℕ) → ledger_in s n m (take 160 line) ≡ ledger_in s n m line
ledger_in_cut Asking n m line = ap (λ (w : Option Edition). ledger (opened w) n m) (asked_cut line)
ledger_in_cut Closed n m line = refl
ledger_in_cut (Telling job) n m line = ap (λ (b : Bool). ledger (Telling job) (one_more n) (refused_after b m)) (refused_cut job line)

pub said_cut : (l : Ledger) (line : List ℕ) → said_of l (take 160 line) ≡ said_of l line
unfolding said_of
said_cut l line = said_in_cut l.stage l.records line

pub ledger_cut : (l : Ledger) (line : List ℕ) → ledger_after l (take 160 line) ≡ ledger_after l line
unfolding ledger_after
ledger_cut l line = ledger_in_cut l.stage l.records l.refused line

-- one byte more, kept while there is room
pub kept_cut : (held : List ℕ) (b : ℕ) → kept (take 160 held) b ≡ take 160 (held ++ b ∷ [])
kept_cut held b = by (ltb (length held) 160) refl
  where
    by : (x : Bool) → ltb (length held) 160 ≡ x → kept (take 160 held) b ≡ take 160 (held ++ b ∷ [])
    by true e =
        let short = ltb-true (length held) 160 e in
        rw (take_all 160 held (omega arith), e) (sym (take_all 160 (held ++ b ∷ []) (omega (arith, length-append held (b ∷ [])))))
    by false e =
        let long = ltb-false (length held) 160 e in
        rw (take-append-le 160 held (b ∷ []) long, length-take-le 160 held long)
