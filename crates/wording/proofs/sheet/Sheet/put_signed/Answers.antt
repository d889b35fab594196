-- `Sheet::put_signed` meets its contract. Assumes nothing.
use Rattle.text.specs.Bytes.{bytes_of}
use Rattle.wording.proofs.PutLaws.{said_as}
use Rattle.wording.proofs.WordingLaws.{no_sign_held, with_sign_held}
use native.Mathlib.Omega.{arith}
use Rattle.wording.proofs.sheet.Sheet.put_signed.Goals as goal

pub returns-then-n-lt0 : goal.returns-then-n-lt0
unfolding bytes_of
returns-then-n-lt0 c = said_as (with_sign_held _ c.ranges.n c.unsigned_abs-size.ensures.value c.if-n-lt0.true) (omega arith) c.put_numbered.ensures

pub returns-else-n-lt0 : goal.returns-else-n-lt0
returns-else-n-lt0 c = said_as (no_sign_held _ c.ranges.n c.unsigned_abs-size.ensures.value c.if-n-lt0.false) (omega arith) c.put_number.ensures
