-- The run that makes a report, byte by byte: what is carried from a byte to the next, and what is said at each. Assumes nothing.
use Rattle.std.specs.Prelude.{ℕ, ◌+◌, Bool, true, cond, List, [], ◌∷◌, ◌++◌, eqb, ltb, length, None, Option, Some}
use Rattle.layout.specs.declared.Edition.{Edition}
use Rattle.layout.specs.Editions.{longest_record}
use Rattle.report_lines.specs.Sentences.{totals}
use Rattle.recast_lines.specs.Sentences.{heading, not_held}
use Rattle.reporting.specs.declared.Job.TheVariants.{Recast}
use Rattle.reporting.specs.declared.Stage.{Stage}
use Rattle.reporting.specs.declared.Stage.TheVariants.{Asking, Closed, Telling}
use Rattle.reporting.specs.declared.Ledger.{Ledger}
use Rattle.reporting.specs.Report.{said_for, refused_for, asked_by}

-- the ledger after the lines that have ended, and the line so far: its first bytes, as many as are held
pub record State : Type 0 where
  pub ledger : Ledger
  pub held : List ℕ

abbrev pub state : Ledger → List ℕ → State
state l h = record { ledger = l; held = h }

abbrev pub ledger : Stage → ℕ → ℕ → Ledger
ledger s n m = record { stage = s; records = n; refused = m }

-- before the first byte
abbrev pub start : Stage → State
start s = state (ledger s 0 0) []

-- the next count; the last u64 has none after it
unfoldable pub one_more : ℕ → ℕ
one_more n = cond (ltb n 18446744073709551615) (n + 1) n

-- what a first line that asks leads to, and what is said of it
abbrev pub opened : Option Edition → Stage
opened (Some edition) = Telling (Recast edition)
opened None = Closed

abbrev pub opening : Option Edition → List ℕ
opening (Some edition) = heading edition
opening None = not_held

-- the refused after a record
abbrev pub refused_after : Bool → ℕ → ℕ
refused_after refused m = cond refused (one_more m) m

-- the ledger after a line, by its stage, and what is said of the line
abbrev pub ledger_in : Stage → ℕ → ℕ → List ℕ → Ledger
ledger_in Asking n m line = ledger (opened (asked_by line)) n m
ledger_in Closed n m line = ledger Closed n m
ledger_in (Telling job) n m line = ledger (Telling job) (one_more n) (refused_after (refused_for job line) m)

unfoldable pub ledger_after : Ledger → List ℕ → Ledger
ledger_after l line = ledger_in l.stage l.records l.refused line

abbrev pub said_in : Stage → ℕ → List ℕ → List ℕ
said_in Asking n line = opening (asked_by line)
said_in Closed n line = []
said_in (Telling job) n line = said_for job (one_more n) line

unfoldable pub said_of : Ledger → List ℕ → List ℕ
said_of l line = said_in l.stage l.records line

-- the line so far with one byte more: one byte more than any record has tells all
abbrev pub held_most : ℕ
held_most = longest_record + 1

abbrev pub kept : List ℕ → ℕ → List ℕ
kept held b = cond (ltb (length held) held_most) (held ++ b ∷ []) held

-- one byte
abbrev pub step : State → ℕ → State
step s b = cond (eqb b 10) (state (ledger_after s.ledger s.held) []) (state s.ledger (kept s.held b))

abbrev pub said_at : State → ℕ → List ℕ
said_at s b = cond (eqb b 10) (said_of s.ledger s.held) []

-- some bytes: the state after them, and what is said on the way
unfoldable pub state_after : State → List ℕ → State
state_after s [] = s
state_after s (b ∷ bytes) = state_after (step s b) bytes

unfoldable pub said_by : State → List ℕ → List ℕ
said_by s [] = []
said_by s (b ∷ bytes) = said_at s b ++ said_by (step s b) bytes

-- the last words, by the stage; and whether anything was refused
abbrev pub last_in : Stage → ℕ → ℕ → List ℕ
last_in Asking n m = not_held
last_in Closed n m = []
last_in (Telling job) n m = totals n m

unfoldable pub last_words : Ledger → List ℕ
last_words l = last_in l.stage l.records l.refused

abbrev pub has_refused_in : Stage → ℕ → Bool
has_refused_in Asking m = true
has_refused_in Closed m = true
has_refused_in (Telling job) m = ltb 0 m

unfoldable pub has_refused : Ledger → Bool
has_refused l = has_refused_in l.stage l.refused

-- the end of the input: the ledger after the line that has no end, if there is one, and what is said of that line and last
abbrev pub end_with : Ledger → List ℕ → Ledger
end_with l [] = l
end_with l (b ∷ held) = ledger_after l (b ∷ held)

unfoldable pub end_of : State → Ledger
end_of s = end_with s.ledger s.held

-- what is said of the line that has no end, if there is one
abbrev pub rest_with : Ledger → List ℕ → List ℕ
rest_with l [] = []
rest_with l (b ∷ held) = said_of l (b ∷ held)

unfoldable pub rest_said : State → List ℕ
rest_said s = rest_with s.ledger s.held

abbrev pub closing_with : Ledger → List ℕ → List ℕ
closing_with l [] = last_words l
closing_with l (b ∷ held) = said_of l (b ∷ held) ++ last_words (ledger_after l (b ∷ held))

unfoldable pub closing : State → List ℕ
closing s = closing_with s.ledger s.held

-- what is said of pieces, one after the other, and at the end
unfoldable pub said_in_pieces : State → List (List ℕ) → List ℕ
said_in_pieces s [] = closing s
said_in_pieces s (piece ∷ pieces) = said_by s piece ++ said_in_pieces (state_after s piece) pieces
