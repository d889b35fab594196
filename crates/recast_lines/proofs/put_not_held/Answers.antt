-- `recast_lines::put_not_held` meets its contract. Assumes nothing.
use Rattle.recast_lines.specs.Sentences.{not_held}
use Rattle.text.specs.Bytes.{bytes_of}
use Rattle.wording.proofs.PutLaws.{within}
use native.Mathlib.Omega.{arith}
use Rattle.recast_lines.proofs.put_not_held.Goals as goal

pub returns : goal.returns
unfolding not_held bytes_of
returns c = within (omega arith) c.put_text.ensures
