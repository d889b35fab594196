-- `reading_lines::is_written_back` meets its contract. Assumes nothing.
use Rattle.reading_lines.proofs.BackLaws.{back_done, back_not}
use Rattle.reading_lines.proofs.LineLaws.{compared}
use mathlib.Core.Path.{◌∙◌, refl}
use Rattle.reading_lines.proofs.is_written_back.Goals as goal

pub returns-in-Ok : goal.returns-in-Ok
returns-in-Ok c =
    let args = c.args in
    c.eq.ensures ∙ compared _ _ ∙ back_done args.edition _ args.line.now c.number.ensures refl c.write.ensures _ c.length-length.ensures c.in-Ok.is

pub returns-in-Err : goal.returns-in-Err
returns-in-Err c =
    let args = c.args in
    back_not args.edition _ args.line.now c.number.ensures refl c.write.ensures c.in-Err.is
