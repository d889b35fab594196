-- Reports of small inputs, computed, of each job: nothing at all; the edition alone; an empty record; a first line with a return in it; an empty first
-- line; a last line without its line end. Assumes nothing.
use mathlib.Core.Path.{◌≡◌, refl}
use mathlib.Core.List.{[], ◌∷◌, map}
use Rattle.text.specs.Bytes.{bytes_of}
use Rattle.checking.specs.Check.{checked}
use Rattle.reading.specs.Answers.{read_after}
use Rattle.refusals.specs.Lent.{in_room}
use Rattle.recasting.specs.Recast.{recast_after}
use Rattle.wording.specs.Wording.{decimal, decimal_from, line_end}
use Rattle.report_lines.specs.Sentences.{refused_line, totals}
use Rattle.check_lines.specs.Sentences.{check_text}
use Rattle.reading_lines.specs.Sentences.{read_text}
use Rattle.recast_lines.specs.Sentences.{heading, not_held, line_of}
use Rattle.reporting.specs.declared.Job.TheVariants.{Check, Readings}
use Rattle.reporting.specs.declared.Stage.TheVariants.{Asking, Telling}
use Rattle.reporting.specs.Lines.{lines_from}
use Rattle.reporting.specs.Report.{asked_by, records_from, report_of}

pub recasts : map (report_of Asking) (bytes_of "" ∷ bytes_of "4" ∷ bytes_of "4\n\n" ∷ bytes_of "4\r\n" ∷ bytes_of "\n4\n" ∷ bytes_of "4\nx" ∷ [])
    ≡ bytes_of "recast refused 8\n"
    ∷ bytes_of "recast to 4\nrecords 0 refused 0\n"
    ∷ bytes_of "recast to 4\n1 refused 1 0\nrecords 1 refused 1\n"
    ∷ bytes_of "recast refused 8\n"
    ∷ bytes_of "recast refused 8\n"
    ∷ bytes_of "recast to 4\n1 refused 1 0\nrecords 1 refused 1\n"
    ∷ []
unfolding lines_from asked_by heading not_held line_of refused_line records_from totals decimal decimal_from line_end bytes_of recast_after in_room checked
recasts = refl

pub checks : map (report_of (Telling Check)) (bytes_of "" ∷ bytes_of "\n" ∷ bytes_of "x" ∷ bytes_of "4\n\n" ∷ [])
    ≡ bytes_of "records 0 refused 0\n"
    ∷ bytes_of "1 refused 1 0\nrecords 1 refused 1\n"
    ∷ bytes_of "1 refused 1 0\nrecords 1 refused 1\n"
    ∷ bytes_of "1 refused 1 0\n2 refused 1 0\nrecords 2 refused 2\n"
    ∷ []
unfolding lines_from check_text refused_line records_from totals decimal decimal_from line_end bytes_of checked
checks = refl

pub reads : map (report_of (Telling Readings)) (bytes_of "" ∷ bytes_of "\n" ∷ [])
    ≡ bytes_of "records 0 refused 0\n"
    ∷ bytes_of "1 refused 1 0\nrecords 1 refused 1\n"
    ∷ []
unfolding lines_from read_text read_after refused_line records_from totals decimal decimal_from line_end bytes_of checked
reads = refl
