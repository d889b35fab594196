-- `reading_lines::put_record` meets its contract. Assumes nothing.
use Rattle.reading_lines.specs.Sentences.{read_text}
use Rattle.wording.proofs.PutLaws.{then, within}
use native.Mathlib.Omega.{arith}
use Rattle.reading_lines.proofs.put_record.Goals as goal

pub returns : goal.returns
unfolding read_text
returns c =
    let all = then (then (then c.put_accepted.ensures c.put_elements.ensures) c.put_call_sign.ensures) c.put_written.ensures in
    rw (← c.call_sign_after-sign.ensures.result_value, ← c.is_written_back-is_back.ensures) (within (omega arith) all)
