-- The end of a run: the line that has no end, if there is one, what is said last, and whether anything was refused. Assumes nothing.
use mathlib.Core.Path.{◌≡◌, refl, ap, ◌∙◌}
use mathlib.Core.Bool.{Bool}
use mathlib.Core.List.{List, [], ◌∷◌, ◌++◌}
use Prim.Native.Nat.{ℕ, ◌<◌, ◌≤◌}
use native.Mathlib.Omega.{arith}
use lib.ListN.{length}
use Rattle.wording.specs.declared.sheet.Sheet.{Sheet}
use Rattle.wording.specs.Puts.{Adds}
use Rattle.wording.proofs.PutLaws.{then_at, unchanged, within}
use Rattle.report_lines.specs.Says.{line_most, record_most}
use Rattle.reporting.specs.declared.Ledger.{Ledger}
use Rattle.reporting.specs.declared.Run.{Run}
use Rattle.reporting.specs.declared.Taking.{Taking}
use Rattle.reporting.specs.Run.{State, state, ledger_after, last_words, has_refused, end_with, end_of, rest_with, rest_said, closing_with, closing}
use Rattle.reporting.specs.FeedClauses.{view, seen, Tells, Finishes, closing_most}

-- a buffer without room for the end is left as it is
pub finish_short : (run : Run) (before : List ℕ) (b : Bool) → length before < closing_most → Finishes run before before (record { written = 0; refused = b })
finish_short run before b h =
    record { room = omega arith; said = λ k. absurd (omega arith); refuses = λ k. absurd (omega arith); unsaid = λ k. (refl, refl) }

-- what is said at the end is what is said of the line that has no end, and what is said last
closing_parts : (s : State) → closing s ≡ rest_said s ++ last_words (end_of s)
unfolding closing rest_said end_of
closing_parts s = by s.ledger s.held
  where
    by : (l : Ledger) (held : List ℕ) → closing_with l held ≡ rest_with l held ++ last_words (end_with l held)
    by l [] = refl
    by l (b ∷ held) = refl

-- the line that has no end, where there is none, and where there is one
module _ (l : Ledger) where
  pub rest_none : (held : List ℕ) (s : Sheet) → held ≡ [] → (l ≡ end_of (state l held)) × Adds (rest_said (state l held)) record_most s s
  unfolding end_of rest_said
  rest_none [] s e = (refl, within (omega arith) (unchanged s))
  rest_none (b ∷ held) s e = absurd (cc)

  pub rest_line : (held : List ℕ) {line : List ℕ} {before after : Sheet} {r : Ledger} → (held ≡ [] → ⊥) → line ≡ held → Tells l line before after r →
      (r ≡ end_of (state l held)) × Adds (rest_said (state l held)) record_most before after
  unfolding end_of rest_said
  rest_line [] some e t = absurd (some refl)
  rest_line (b ∷ held) some e t = (t.next ∙ ap (ledger_after l) e, rw e at t.said)

-- the line that has no end is taken, and what is said last is put
pub finished : (run : Run) {taking : Taking} {after : List ℕ} {before now from last : Sheet} {l : Ledger} {b : Bool} → seen taking ≡ view run → before.end ≡ 0 → closing_most ≤ length before.out.now → after ≡ last.out.now → l ≡ end_of (seen taking) →
    Adds (rest_said (seen taking)) record_most before now → from.end ≡ now.end → from.out ≡ now.out → Adds (last_words l) line_most from last → b ≡ has_refused l →
    Finishes run before.out.now after (record { written = last.end; refused = b })
finished run {last = last} same z room back f t i o q g =
    let e = rw same at f in
    let p = rw same at t in
    let all = then_at p i o q in
    record {
      room = omega (arith, last.within, all.same_length);
      said = λ k. rw (closing_parts (view run), ← e, ← z, back) all.puts;
      refuses = λ k. g ∙ ap has_refused e;
      unsaid = λ k. absurd (omega arith);
    }
