-- `recast_lines::put_lost` meets its contract: the elements of the first word, and then those of the second. Assumes nothing.
use Rattle.recast_lines.proofs.LostLaws.{lost_by_words, told_room, told_within}
use Rattle.wording.proofs.PutLaws.{said_as, then}
use borrow.Author.Rules.{rules}
use mathlib.Core.Path.{refl, sym}
use native.Mathlib.Omega.{arith}
use Rattle.recast_lines.proofs.put_lost.Goals as goal

pub put_word-requires : goal.put_word-requires
put_word-requires c = told_room _ _ 64 0 refl (search rules) (omega arith) c.args.sheet.now (omega arith)

pub put_word-requires-2 : goal.put_word-requires-2
put_word-requires-2 c =
    let first = told_within _ _ 64 0 refl (search rules) (omega arith) c.put_word.ensures in
    told_room _ _ 37 27 refl (omega arith) (omega arith) c.put_word.new.sheet (omega arith)

pub returns : goal.returns
returns c =
    let first = told_within _ _ 64 0 refl (search rules) (omega arith) c.put_word.ensures in
    let second = told_within _ _ 37 27 refl (omega arith) (omega arith) c.put_word-2.ensures in
    said_as (sym (lost_by_words _)) (omega arith) (then first second)
