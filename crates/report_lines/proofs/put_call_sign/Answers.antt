-- `report_lines::put_call_sign` meets its contract. Assumes nothing.
use Rattle.report_lines.proofs.SignLine.{sign_none, sign_put}
use Rattle.text.specs.Bytes.{bytes_of}
use Rattle.wording.proofs.PutLaws.{then, said_as, within}
use Rattle.wording.specs.Wording.{line_end}
use borrow.Author.Rules.{rules}
use lib.ListN.{length}
use mathlib.Core.Path.{ap}
use native.Mathlib.Omega.{arith}
use Rattle.report_lines.proofs.put_call_sign.Goals as goal

pub returns-then-is_empty : goal.returns-then-is_empty
returns-then-is_empty c = sign_none _ _ _ (search rules)

pub returns : goal.returns
unfolding line_end bytes_of
returns c = sign_put _ _ (search rules) (within (omega arith) (then (then (then c.put_number.ensures c.put_text.ensures) (said_as {n = 7} c.copy_from_slice.ensures.after (omega (arith, ap length c.copy_from_slice.ensures.after)) c.put_text-2.ensures)) c.put_text-3.ensures))
