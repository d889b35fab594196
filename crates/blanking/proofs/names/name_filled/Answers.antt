-- `blanking::names::name_filled` meets its contract. Assumes nothing.
use native.Mathlib.Omega.{arith}
use lib.Dec.{lit≤}
use Rattle.layout.proofs.Columns.{start_below}
use Rattle.blanking.specs.LostBytes.{later_lost}
use Rattle.blanking.proofs.NameLaws.{joined, eight_word}
use Rattle.blanking.proofs.names.name_filled.Goals as goal

pub name_eight-requires : goal.name_eight-requires
name_eight-requires c = ((lit≤ tt, lit≤ tt), omega (arith, start_below 94 (lit≤ tt)))

pub name_eight-requires-2 : goal.name_eight-requires-2
name_eight-requires-2 c = ((lit≤ tt, lit≤ tt), omega (arith, start_below 102 (lit≤ tt)))

pub returns : goal.returns
unfolding later_lost
returns c =
    let line = c.args.line.now in
    joined _ _ 65 37 _ _ (eight_word line 33 126 21 (omega arith) _ _ c.name_eight.ensures c.moved.ensures) (eight_word line 33 126 29 (omega arith) _ _ c.name_eight-2.ensures c.moved-2.ensures)
