-- The contracts of the run: what telling a line, feeding a piece and finishing answer, and what they say of the lent buffer. Assumes nothing.
use Rattle.std.specs.Prelude.{ℕ, ◌+◌, ◌<◌, ◌≤◌, ◌≡◌, List, length, take}
use Rattle.wording.specs.declared.sheet.Sheet.{Sheet}
use Rattle.wording.specs.Puts.{Puts, Adds}
use Rattle.report_lines.specs.Says.{record_most}
use Rattle.reporting.specs.declared.Ledger.{Ledger}
use Rattle.reporting.specs.declared.Run.{Run}
use Rattle.reporting.specs.declared.Taking.{Taking}
use Rattle.reporting.specs.declared.Fed.{Fed}
use Rattle.reporting.specs.declared.Finished.{Finished}
use Rattle.reporting.specs.Run.{ledger_after, said_of, state_after, said_by, end_of, has_refused, closing, State, state}

-- the state of a run of the code, which may hold no more than its array has
abbrev pub view : Run → State
view run = state run.ledger (take run.length run.held)

-- the same of a run as its lines are taken
abbrev pub seen : Taking → State
seen run = state run.ledger run.held

-- a line is told: the ledger after it, and what is said of it on the sheet
pub record Tells (l : Ledger) (line : List ℕ) (before after : Sheet) (r : Ledger) : Type 0 where
  pub next : r ≡ ledger_after l line
  pub said : Adds (said_of l line) record_most before after

-- some of a piece is taken, from its front on: what it has led to, and what is said of it on the sheet
pub record Takes (first : State) (piece : List ℕ) (before : Sheet) (run : Taking) (now : Sheet) (at : ℕ) : Type 0 where
  pub within : at ≤ length piece
  pub after : state_after first (take at piece) ≡ seen run
  pub same_buffer : now.out.ghost_name ≡ before.out.ghost_name
  pub same_length : length now.out.now ≡ length before.out.now
  pub said : Puts (said_by first (take at piece)) before.end before.out.now now.out.now now.end

-- some of a piece is taken, from its front on, and what is said of it stands at the front of the buffer; it is all of the piece unless the buffer has no
-- room left for what may be said of a record, and some of it where there was such room at all
pub record Feeds (run : Run) (piece before after : List ℕ) (r : Fed) : Type 0 where
  pub within : r.taken ≤ length piece
  pub room : r.written ≤ length before
  pub state : view r.run ≡ state_after (view run) (take r.taken piece)
  pub said : Puts (said_by (view run) (take r.taken piece)) 0 before after r.written
  pub stops : r.taken < length piece → length before < r.written + record_most
  pub moves : record_most ≤ length before → 0 < length piece → 0 < r.taken

-- the most that is said at the end: of a record, and the last line
abbrev pub closing_most : ℕ
closing_most = 12400

-- the end is told, where the buffer has room for it, and whether anything was refused; else nothing is written
pub record Finishes (run : Run) (before after : List ℕ) (r : Finished) : Type 0 where
  pub room : r.written ≤ length before
  pub said : closing_most ≤ length before → Puts (closing (view run)) 0 before after r.written
  pub refuses : closing_most ≤ length before → r.refused ≡ has_refused (end_of (view run))
  pub unsaid : length before < closing_most → (r.written ≡ 0) × (after ≡ before)
