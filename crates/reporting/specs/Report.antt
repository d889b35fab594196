-- The report of a whole input, by its job: what is said of each record, the line that a report begins with, and the last. Assumes nothing.
use Rattle.std.specs.Prelude.{ℕ, ◌+◌, Bool, true, false, cond, ◌||◌, List, [], ◌∷◌, ◌++◌, eqb, length, get_or, None, Option, Some}
use Rattle.layout.specs.declared.Edition.{Edition}
use Rattle.layout.specs.Editions.{edition_of}
use Rattle.report_lines.specs.Sentences.{totals}
use Rattle.check_lines.specs.Sentences.{check_said, check_refused}
use Rattle.reading_lines.specs.Sentences.{read_said, read_refused}
use Rattle.recast_lines.specs.Sentences.{heading, not_held, recast_said, recast_refused}
use Rattle.reporting.specs.declared.Job.{Job}
use Rattle.reporting.specs.declared.Job.TheVariants.{Check, Readings, Recast}
use Rattle.reporting.specs.declared.Stage.{Stage}
use Rattle.reporting.specs.declared.Stage.TheVariants.{Asking, Closed, Telling}
use Rattle.reporting.specs.Lines.{lines_of}

-- what a job says of a record with its count, and whether the record is refused
abbrev pub said_for : Job → ℕ → List ℕ → List ℕ
said_for Check n line = check_said n line
said_for Readings n line = read_said n line
said_for (Recast edition) n line = recast_said edition n line

abbrev pub refused_for : Job → List ℕ → Bool
refused_for Check line = check_refused line
refused_for Readings line = read_refused line
refused_for (Recast edition) line = recast_refused edition line

-- the lines of records, after n records of which m were refused, and the last line; and whether any of them is refused
unfoldable pub records_from : Job → ℕ → ℕ → List (List ℕ) → List ℕ
records_from job n m [] = totals n m
records_from job n m (line ∷ lines) = said_for job (n + 1) line ++ records_from job (n + 1) (m + cond (refused_for job line) 1 0) lines

unfoldable pub any_refused : Job → List (List ℕ) → Bool
any_refused job [] = false
any_refused job (line ∷ lines) = refused_for job line || any_refused job lines

-- the edition that the first line of the recast report's input asks for: '1', '3' or '4' alone
unfoldable pub asked_by : List ℕ → Option Edition
asked_by line = cond (eqb (length line) 1) (edition_of (get_or line 0 0)) None

-- the recast report on the lines after the first, by what the first asks for; and whether anything is refused
abbrev pub recast_in : Option Edition → List (List ℕ) → List ℕ
recast_in None lines = not_held
recast_in (Some edition) lines = heading edition ++ records_from (Recast edition) 0 0 lines

abbrev pub refused_in : Option Edition → List (List ℕ) → Bool
refused_in None lines = true
refused_in (Some edition) lines = any_refused (Recast edition) lines

abbrev pub asking : List (List ℕ) → Option Edition
asking [] = None
asking (line ∷ lines) = asked_by line

abbrev pub rest : List (List ℕ) → List (List ℕ)
rest [] = []
rest (line ∷ lines) = lines

-- the report on the lines of an input, by the stage that it begins in: each line is a record, or the first asks for an edition
abbrev pub report_on : Stage → List (List ℕ) → List ℕ
report_on (Telling job) lines = records_from job 0 0 lines
report_on Asking lines = recast_in (asking lines) (rest lines)
report_on Closed lines = []

abbrev pub refused_on : Stage → List (List ℕ) → Bool
refused_on (Telling job) lines = any_refused job lines
refused_on Asking lines = refused_in (asking lines) (rest lines)
refused_on Closed lines = true

-- the report of a whole input
abbrev pub report_of : Stage → List ℕ → List ℕ
report_of stage input = report_on stage (lines_of input)
