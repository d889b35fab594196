-- What a line leads to, by the stage that it finds. Assumes nothing.
use Rattle.std.specs.Prelude.{Option}
use mathlib.Core.Path.{◌≡◌, refl, sym, ◌∙◌}
use mathlib.Core.Bool.{Bool, true, false, cond}
use mathlib.Core.List.{List}
use Prim.Native.Nat.{ℕ, ◌+◌, ◌≤◌, min}
use native.Mathlib.Omega.{arith}
use borrow.Author.Tests.{ltb-true, ltb-false, eq-eqb}
use lib.Dec.{ltb}
use Rattle.std.specs.Int.{from_bool}
use lib.ListN.{length, get_or, take}
use Rattle.layout.specs.declared.Edition.{Edition}
use Rattle.layout.specs.Editions.{edition_of}
use Rattle.wording.specs.declared.sheet.Sheet.{Sheet}
use Rattle.wording.specs.Puts.{Adds}
use Rattle.report_lines.specs.Says.{line_most, Says}
use Rattle.reporting.specs.declared.Job.{Job}
use Rattle.reporting.specs.declared.Stage.{Stage}
use Rattle.reporting.specs.declared.Stage.TheVariants.{Asking, Closed, Telling}
use Rattle.reporting.specs.declared.Ledger.{Ledger}
use Rattle.reporting.specs.Report.{said_for, refused_for, asked_by}
use Rattle.reporting.specs.Run.{ledger, one_more, opened, opening, refused_after, ledger_after, said_of, last_words}
use Rattle.reporting.specs.FeedClauses.{Tells}
use Rattle.wording.proofs.PutLaws.{unchanged, within}
use Rattle.reporting.proofs.CutLaws.{said_cut, ledger_cut}

-- the next count, as it is added where it may be no more than the last
next : (n : ℕ) → n ≤ 18446744073709551615 → min (n + 1) 18446744073709551615 ≡ one_more n
unfolding one_more
next n h = by (ltb n 18446744073709551615) refl
  where
    by : (x : Bool) → ltb n 18446744073709551615 ≡ x → min (n + 1) 18446744073709551615 ≡ cond x (n + 1) n
    by true e = omega (arith, ltb-true n 18446744073709551615 e)
    by false e = omega (arith, ltb-false n 18446744073709551615 e)

-- and the refused, of a record that is refused or not
next_refused : (b : Bool) (m : ℕ) → m ≤ 18446744073709551615 → min (m + from_bool b) 18446744073709551615 ≡ refused_after b m
next_refused true m h = next m h
next_refused false m h = omega arith

-- the first line is one byte that names an edition
pub asks : (line : List ℕ) → length line ≡ 1 → edition_of (get_or line 0 0) ≡ asked_by line
unfolding asked_by
asks line h = rw (eq-eqb (length line) 1 h)

-- a first line that asks leads to another stage, and says which
pub first_tells : (l : Ledger) (line : List ℕ) {before after : Sheet} (w : Option Edition) → l.stage ≡ Asking → w ≡ asked_by line → Adds (opening w) line_most before after →
    Tells l line before after (ledger (opened w) l.records l.refused)
unfolding ledger_after said_of
first_tells l line w e a p = record { next = rw (e, a); said = rw (e, ← a) (within (omega arith) p) }

-- a record is counted, and told with its count
pub record_tells : (l : Ledger) (line : List ℕ) {before after : Sheet} (job : Job) (count : ℕ) (b : Bool) (k : ℕ) {stage : Stage} → l.stage ≡ Telling job → stage ≡ l.stage →
    l.records ≤ 18446744073709551615 → l.refused ≤ 18446744073709551615 → count ≡ min (l.records + 1) 18446744073709551615 → k ≡ min (l.refused + from_bool b) 18446744073709551615 →
    Says (said_for job count line) (refused_for job line) before after b → Tells l line before after (ledger stage count k)
unfolding ledger_after said_of
record_tells l line job count b k e s h i f g p =
    let counted : count ≡ one_more l.records = f ∙ next l.records h in
    let refused : k ≡ refused_after b l.refused = g ∙ next_refused b l.refused i in
    record { next = rw (s, e, counted, refused, p.refuses); said = rw (e, ← counted) p.adds }

-- nothing is said any more
pub closed_tells : (l : Ledger) (line : List ℕ) (s : Sheet) → l.stage ≡ Closed → Tells l line s s l
unfolding ledger_after said_of
closed_tells l line s e = record { next = rw e; said = rw e (within (omega arith) (unchanged s)) }

-- a line and its first 160 bytes
pub cut_tells : (l : Ledger) (line : List ℕ) {before after : Sheet} {r : Ledger} → Tells l line before after r → Tells l (take 160 line) before after r
cut_tells l line t = record { next = t.next ∙ sym (ledger_cut l line); said = rw (said_cut l line) t.said }

-- what is said last where nothing is
pub closed_last : (l : Ledger) (s : Sheet) → l.stage ≡ Closed → Adds (last_words l) line_most s s
unfolding last_words
closed_last l s e = rw e (within (omega arith) (unchanged s))
