use Rattle.recast_lines.proofs.LostLaws.{told}
use Rattle.wording.proofs.PutLaws.{Left}
use Rattle.recast_lines.proofs.put_word.Given as goal

abbrev pub invariant-loop-left : goal.invariant-loop-left
invariant-loop-left l = Left (told l.first l.word) l.initial.sheet (told l.first l.left) l.sheet

abbrev pub decreases-loop-left : goal.decreases-loop-left
decreases-loop-left l = l.left
