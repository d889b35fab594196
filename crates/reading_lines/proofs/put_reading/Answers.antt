-- `reading_lines::put_reading` meets its contract. Assumes nothing.
use Rattle.reading_lines.proofs.LineLaws.{as_line, no_line}
use Rattle.text.specs.Bytes.{bytes_of}
use Rattle.wording.proofs.PutLaws.{said_as, then}
use Rattle.wording.specs.Wording.{line_end}
use native.Mathlib.Omega.{arith}
use Rattle.reading_lines.proofs.put_reading.Goals as goal

pub returns-in-Missing : goal.returns-in-Missing
returns-in-Missing c = rw c.in-Missing.is (no_line _ _ _)

pub returns-in_default : goal.returns-in_default
unfolding line_end bytes_of
returns-in_default c =
    said_as (as_line _ _ _ c.in_default.not-Missing) (omega arith) (then (then (then c.put_text.ensures c.put_numbered.ensures) c.put_words.ensures) c.put_text-in_default.ensures)
