-- Demand 2: a report is proved as a run, and not only of one record, for every job at once. Assumes nothing.
--     in_pieces       the state after some bytes, and what is said of them, is that of their parts, one after the other
--     whole_report    what is said of a whole input and at its end is the report of it
--     whole_refused   and the end says that something was refused exactly where the report says so of a line
--     any_pieces      so it is, in whatever pieces the input is fed
--     fed_report      what calls of feed and a call of finish write, one after the other, is the report of all that they took, and what finish answers is
--                     whether anything was refused
use Rattle.std.specs.Prelude.{None, Option, Some}
use mathlib.Core.Path.{◌≡◌, refl, sym, ap, ap₂, ◌∙◌}
use mathlib.Core.Bool.{Bool, true, false, cond, ◌||◌}
use mathlib.Core.List.{List, [], ◌∷◌, ◌++◌, append_assoc, append-nil, flatten}
use Prim.Native.Nat.{ℕ, ◌+◌, ◌^◌, ◌<◌, ◌≤◌}
use native.Mathlib.Nat.{add-zero}
use native.Mathlib.Omega.{arith}
use borrow.Author.Tests.{lt-ltb, ltb-false}
use lib.Dec.{eqb, ltb}
use lib.ListN.{length, take, length-append}
use Rattle.layout.specs.declared.Edition.{Edition}
use Rattle.wording.proofs.PutLaws.{front}
use Rattle.recast_lines.specs.Sentences.{heading, not_held}
use Rattle.reporting.specs.declared.Job.{Job}
use Rattle.reporting.specs.declared.Job.TheVariants.{Recast}
use Rattle.reporting.specs.declared.Stage.{Stage}
use Rattle.reporting.specs.declared.Stage.TheVariants.{Asking, Closed, Telling}
use Rattle.reporting.specs.declared.Ledger.{Ledger}
use Rattle.reporting.specs.declared.Run.{Run}
use Rattle.reporting.specs.declared.Fed.{Fed}
use Rattle.reporting.specs.declared.Finished.{Finished}
use Rattle.reporting.specs.Lines.{lines_from, lines_of, last_line}
use Rattle.reporting.specs.Report.{said_for, refused_for, records_from, any_refused, asked_by, recast_in, refused_in, report_on, refused_on, report_of}
use Rattle.reporting.specs.Run.{State, state, ledger, start, one_more, opened, opening, refused_after, ledger_after, said_of, state_after, said_by, last_words, has_refused, end_of, closing, said_in_pieces}
use Rattle.reporting.specs.FeedClauses.{view}
use Rattle.reporting.specs.FeedClauses.{Feeds, Finishes, closing_most}
use Rattle.reporting.proofs.CutLaws.{said_cut, ledger_cut, kept_cut}
use Rattle.reporting.proofs.RunLaws.{state_append, said_append}

-- all that is said from a state on
abbrev run_from : State → List ℕ → List ℕ
run_from s input = said_by s input ++ closing (state_after s input)

run_end : (s : State) → run_from s [] ≡ closing s
unfolding said_by state_after
run_end s = refl

-- a byte that ends the line, and one that does not
module _ (l : Ledger) (held : List ℕ) (b : ℕ) (input : List ℕ) where
  state_line : eqb b 10 ≡ true → state_after (state l (take 160 held)) (b ∷ input) ≡ state_after (state (ledger_after l held) []) input
  unfolding state_after
  state_line e = rw (e, ledger_cut l held)

  state_byte : eqb b 10 ≡ false → state_after (state l (take 160 held)) (b ∷ input) ≡ state_after (state l (take 160 (held ++ b ∷ []))) input
  unfolding state_after
  state_byte e = rw (e, kept_cut held b)

  said_line : eqb b 10 ≡ true → said_by (state l (take 160 held)) (b ∷ input) ≡ said_of l held ++ said_by (state (ledger_after l held) []) input
  unfolding said_by
  said_line e = rw (e, said_cut l held, ledger_cut l held)

  said_byte : eqb b 10 ≡ false → said_by (state l (take 160 held)) (b ∷ input) ≡ said_by (state l (take 160 (held ++ b ∷ []))) input
  unfolding said_by
  said_byte e = rw (e, kept_cut held b)

-- what is said of lines from a ledger on, and the ledger after them
told_from : Ledger → List (List ℕ) → List ℕ
told_from l [] = last_words l
told_from l (line ∷ lines) = said_of l line ++ told_from (ledger_after l line) lines

after_from : Ledger → List (List ℕ) → Ledger
after_from l [] = l
after_from l (line ∷ lines) = after_from (ledger_after l line) lines

-- a run says what is to be said of the lines, and comes to the ledger after them
abbrev ByLines : State → List ℕ → Ledger → List (List ℕ) → Type 0
ByLines s input l lines = (run_from s input ≡ told_from l lines) × (end_of (state_after s input) ≡ after_from l lines)

at_end : (l : Ledger) (held : List ℕ) → ByLines (state l (take 160 held)) [] l (last_line held)
unfolding told_from after_from closing end_of said_by state_after
at_end l [] = (refl, refl)
at_end l (b ∷ held) = (rw (said_cut l (b ∷ held), ledger_cut l (b ∷ held)), ledger_cut l (b ∷ held))

by_lines : (input held : List ℕ) (l : Ledger) → ByLines (state l (take 160 held)) input l (lines_from held input)
unfolding lines_from told_from after_from
by_lines [] held l = at_end l held
by_lines (b ∷ input) held l = by (eqb b 10) refl (by_lines input [] (ledger_after l held)) (by_lines input (held ++ b ∷ []) l)
  where
    by : (x : Bool) → eqb b 10 ≡ x → ByLines (state (ledger_after l held) []) input (ledger_after l held) (lines_from [] input) →
        ByLines (state l (take 160 (held ++ b ∷ []))) input l (lines_from (held ++ b ∷ []) input) →
        ByLines (state l (take 160 held)) (b ∷ input) l (cond x (held ∷ lines_from [] input) (lines_from (held ++ b ∷ []) input))
    by true e here there = (
      ap₂ (λ (t : List ℕ) (s : State). t ++ closing s) (said_line l held b input e) (state_line l held b input e) ∙
          append_assoc (said_of l held) _ _ ∙
          ap (λ (t : List ℕ). said_of l held ++ t) here.0,
      ap end_of (state_line l held b input e) ∙ here.1,
    )
    by false e here there = (
      ap₂ (λ (t : List ℕ) (s : State). t ++ closing s) (said_byte l held b input e) (state_byte l held b input e) ∙ there.0,
      ap end_of (state_byte l held b input e) ∙ there.1,
    )

-- an input has no more lines than bytes
lines_few : (input held : List ℕ) → length (lines_from held input) ≤ length held + length input
unfolding lines_from
lines_few [] [] = omega arith
lines_few [] (b ∷ held) = omega arith
lines_few (b ∷ input) held = by (eqb b 10) (lines_few input []) (lines_few input (held ++ b ∷ []))
  where
    by : (x : Bool) → length (lines_from [] input) ≤ 0 + length input → length (lines_from (held ++ b ∷ []) input) ≤ length (held ++ b ∷ []) + length input →
        length (cond x (held ∷ lines_from [] input) (lines_from (held ++ b ∷ []) input)) ≤ length held + length (b ∷ input)
    by true here there = omega arith
    by false here there = omega (arith, length-append held (b ∷ []))

-- counts that do not reach the last u64
more : (n : ℕ) → n + 1 < 2 ^ 64 → one_more n ≡ n + 1
unfolding one_more
more n h = rw (lt-ltb n 18446744073709551615 (omega arith))

more_refused : (b : Bool) (n m : ℕ) → n + 1 < 2 ^ 64 → m ≤ n → (refused_after b m ≡ m + cond b 1 0) × (m + cond b 1 0 ≤ n + 1)
more_refused false n m h k = (sym (add-zero m), omega arith)
more_refused true n m h k = (more m (omega arith), omega arith)

-- a count that was raised is not 0
raised : (m : ℕ) → ltb 0 (one_more m) ≡ true
unfolding one_more
raised m = by (ltb m 18446744073709551615) refl
  where
    by : (x : Bool) → ltb m 18446744073709551615 ≡ x → ltb 0 (cond x (m + 1) m) ≡ true
    by true e = lt-ltb 0 (m + 1) (omega arith)
    by false e = lt-ltb 0 m (omega (arith, ltb-false m 18446744073709551615 e))

-- the records, whatever the job: what is said from n records on, of which m were refused, is the report of the lines that are left
module _ (job : Job) where
  records_told : (lines : List (List ℕ)) (n m : ℕ) → n + length lines < 2 ^ 64 → m ≤ n → told_from (ledger (Telling job) n m) lines ≡ records_from job n m lines
  unfolding told_from records_from last_words said_of ledger_after
  records_told [] n m h k = refl
  records_told (line ∷ lines) n m h k =
      let counted = more n (omega arith) in
      let refused = more_refused (refused_for job line) n m (omega arith) k in
      ap (λ (i : ℕ). said_for job i line ++ told_from (ledger (Telling job) i (refused_after (refused_for job line) m)) lines) counted ∙
      ap (λ (j : ℕ). said_for job (n + 1) line ++ told_from (ledger (Telling job) (n + 1) j) lines) refused.0 ∙
      ap (λ (t : List ℕ). said_for job (n + 1) line ++ t) (records_told lines (n + 1) (m + cond (refused_for job line) 1 0) (omega arith) refused.1)

  -- something was refused before, or is among the lines that are left
  records_refused : (lines : List (List ℕ)) (n m : ℕ) → has_refused (after_from (ledger (Telling job) n m) lines) ≡ (ltb 0 m || any_refused job lines)
  unfolding after_from any_refused has_refused ledger_after
  records_refused [] n m = by (ltb 0 m)
    where
      by : (x : Bool) → x ≡ (x || false)
      by true = refl
      by false = refl
  records_refused (line ∷ lines) n m = records_refused lines (one_more n) (refused_after (refused_for job line) m) ∙ by (refused_for job line) (ltb 0 m) refl
    where
      by : (b x : Bool) → ltb 0 m ≡ x → (ltb 0 (refused_after b m) || any_refused job lines) ≡ (x || (b || any_refused job lines))
      by true true e = rw (raised m)
      by true false e = rw (raised m)
      by false x e = rw e

-- after the refusal of an edition nothing is said
closed_told : (lines : List (List ℕ)) (n m : ℕ) → (told_from (ledger Closed n m) lines ≡ []) × (after_from (ledger Closed n m) lines ≡ ledger Closed n m)
unfolding told_from after_from last_words said_of ledger_after
closed_told [] n m = (refl, refl)
closed_told (line ∷ lines) n m = closed_told lines n m

-- what follows a first line that asks
first_told : (w : Option Edition) (lines : List (List ℕ)) → length lines < 2 ^ 64 → opening w ++ told_from (ledger (opened w) 0 0) lines ≡ recast_in w lines
first_told (Some edition) lines h = ap (λ (t : List ℕ). heading edition ++ t) (records_told (Recast edition) lines 0 0 (omega arith) (omega arith))
first_told None lines h = rw (closed_told lines 0 0).0 (append-nil not_held)

first_refused : (w : Option Edition) (lines : List (List ℕ)) → has_refused (after_from (ledger (opened w) 0 0) lines) ≡ refused_in w lines
unfolding has_refused
first_refused (Some edition) lines = records_refused (Recast edition) lines 0 0
first_refused None lines = rw (closed_told lines 0 0).1

-- the lines of an input, from the stage that it begins in
lines_told : (s : Stage) (lines : List (List ℕ)) → length lines < 2 ^ 64 → told_from (ledger s 0 0) lines ≡ report_on s lines
unfolding told_from last_words said_of ledger_after
lines_told (Telling job) lines h = records_told job lines 0 0 (omega arith) (omega arith)
lines_told Closed lines h = (closed_told lines 0 0).0
lines_told Asking [] h = refl
lines_told Asking (line ∷ lines) h = first_told (asked_by line) lines (omega arith)

lines_refused : (s : Stage) (lines : List (List ℕ)) → has_refused (after_from (ledger s 0 0) lines) ≡ refused_on s lines
unfolding after_from has_refused ledger_after
lines_refused (Telling job) lines = records_refused job lines 0 0
lines_refused Closed lines = rw (closed_told lines 0 0).1
lines_refused Asking [] = refl
lines_refused Asking (line ∷ lines) = first_refused (asked_by line) lines

pub in_pieces : (s : State) (a b : List ℕ) →
    (state_after s (a ++ b) ≡ state_after (state_after s a) b) × (said_by s (a ++ b) ≡ said_by s a ++ said_by (state_after s a) b)
in_pieces s a b = (state_append s a b, said_append s a b)

module _ (stage : Stage) where
  pub whole_report : (input : List ℕ) → length input < 2 ^ 64 → said_by (start stage) input ++ closing (state_after (start stage) input) ≡ report_of stage input
  whole_report input h = (by_lines input [] (ledger stage 0 0)).0 ∙ lines_told stage (lines_of input) (omega (arith, lines_few input []))

  pub whole_refused : (input : List ℕ) → has_refused (end_of (state_after (start stage) input)) ≡ refused_on stage (lines_of input)
  whole_refused input = ap has_refused (by_lines input [] (ledger stage 0 0)).1 ∙ lines_refused stage (lines_of input)

-- what is said piece after piece is what is said of them all
pieces_said : (s : State) (pieces : List (List ℕ)) → said_in_pieces s pieces ≡ run_from s (flatten pieces)
unfolding said_in_pieces flatten
pieces_said s [] = sym (run_end s)
pieces_said s (piece ∷ pieces) =
    rw (pieces_said (state_after s piece) pieces, said_append s piece (flatten pieces), state_append s piece (flatten pieces))
    (sym (append_assoc (said_by s piece) (said_by (state_after s piece) (flatten pieces)) _))

pub any_pieces : (stage : Stage) (pieces : List (List ℕ)) → length (flatten pieces) < 2 ^ 64 → said_in_pieces (start stage) pieces ≡ report_of stage (flatten pieces)
any_pieces stage pieces h = pieces_said (start stage) pieces ∙ whole_report stage (flatten pieces) h

-- A run of the code: feed is called on whatever pieces, from any lent buffers, and again on what it left of them. `pieces` is what was taken at each call,
-- `said` what stood at the front of the buffer after it, all in order.
pub data Fedᴰ : Run → List (List ℕ) → List ℕ → Run → Type 0 where
  unfed : {run : Run} → Fedᴰ run [] [] run
  fed : {run last : Run} {piece before after said : List ℕ} {pieces : List (List ℕ)} (r : Fed) → Feeds run piece before after r → Fedᴰ r.run pieces said last →
      Fedᴰ run (take r.taken piece ∷ pieces) (take r.written after ++ said) last

fed_said : {run last : Run} {pieces : List (List ℕ)} {said : List ℕ} → Fedᴰ run pieces said last →
    (said ++ closing (view last) ≡ said_in_pieces (view run) pieces) × (view last ≡ state_after (view run) (flatten pieces))
unfolding said_in_pieces state_after flatten
fed_said unfed = (refl, refl)
fed_said {run} {last} (fed {piece = piece} {after = after} {said = said} {pieces = pieces} r f rest) =
    let later = fed_said rest in
    let bytes = take r.taken piece in (
      append_assoc (take r.written after) said (closing (view last)) ∙
          ap (λ t. take r.written after ++ t) later.0 ∙
          ap (λ t. t ++ said_in_pieces (view r.run) pieces) (front f.said) ∙
          ap (λ s. said_by (view run) bytes ++ said_in_pieces s pieces) f.state,
      later.1 ∙ ap (λ s. state_after s (flatten pieces)) f.state ∙ sym (state_append (view run) bytes (flatten pieces)),
    )

pub fed_report : (stage : Stage) {run last : Run} {pieces : List (List ℕ)} {said before after : List ℕ} {r : Finished} → view run ≡ start stage →
    Fedᴰ run pieces said last → Finishes last before after r → closing_most ≤ length before → length (flatten pieces) < 2 ^ 64 →
    (said ++ take r.written after ≡ report_of stage (flatten pieces)) × (r.refused ≡ refused_on stage (lines_of (flatten pieces)))
fed_report stage {run} {last} {pieces} {said} e f g room h =
    let all = fed_said f in (
      ap (λ t. said ++ t) (front (g.said room)) ∙ all.0 ∙ ap (λ s. said_in_pieces s pieces) e ∙ any_pieces stage pieces h,
      g.refuses room ∙ ap (λ s. has_refused (end_of s)) (all.1 ∙ ap (λ s. state_after s (flatten pieces)) e) ∙ whole_refused stage (flatten pieces),
    )
