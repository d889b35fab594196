-- `recast_lines::put_word` meets its contract: what is left to put gives what the whole gives. Assumes nothing.
use Rattle.recast_lines.proofs.LostLaws.{told_next, told_none, told_some}
use Rattle.text.specs.Bytes.{bytes_of}
use Rattle.wording.proofs.PutLaws.{left_all, left_end, left_put}
use native.Mathlib.Omega.{arith}
use Rattle.recast_lines.proofs.put_word.Goals as goal

pub loop-left-init : goal.loop-left-init
loop-left-init c = left_all _ _

pub put_numbered-requires : goal.put_numbered-requires
put_numbered-requires c =
    let l = c.loop-left in
    omega (arith, l.invariant.ending, l.invariant.same_length, told_some c.args.first l.left (omega arith) c.loop-left-test.true)

pub loop-left-preserved : goal.loop-left-preserved
unfolding bytes_of
loop-left-preserved c =
    let l = c.loop-left in
    let next = told_next c.args.first l.left (omega arith) c.loop-left-test.true in
    left_put l.invariant next (rw c.from.ensures at c.put_numbered.ensures) (omega arith)

pub returns : goal.returns
returns c = left_end c.loop-left.invariant (told_none _ _ c.loop-left-test.false)
