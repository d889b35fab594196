-- `blanking::names::name_flags` meets its contract. Assumes nothing.
use mathlib.Core.Path.{refl}
use native.Mathlib.Omega.{arith}
use lib.Dec.{lit≤}
use Rattle.layout.proofs.Columns.{start_shared}
use Rattle.blanking.specs.LostBytes.{flags_lost}
use Rattle.blanking.proofs.NameLaws.{joined, eight_word, none_named, some_named}
use Rattle.blanking.proofs.names.name_flags.Goals as goal

pub returns-then-not-back : goal.returns-then-not-back
unfolding flags_lost
returns-then-not-back c = none_named flags_lost (λ at b. refl) c.args.back c.if-not-back.true-raw c.args.line.now 65 37

pub name_eight-requires : goal.name_eight-requires
name_eight-requires c = ((lit≤ tt, lit≤ tt), omega (arith, start_shared 74 (lit≤ tt)))

pub name_eight-requires-2 : goal.name_eight-requires-2
name_eight-requires-2 c = ((lit≤ tt, lit≤ tt), omega (arith, start_shared 82 (lit≤ tt)))

pub name_eight-requires-3 : goal.name_eight-requires-3
name_eight-requires-3 c = ((lit≤ tt, lit≤ tt), omega (arith, start_shared 86 (lit≤ tt)))

pub returns : goal.returns
unfolding flags_lost
returns c =
    let args = c.args in
    let line = args.line.now in
    some_named flags_lost args.back c.if-not-back.false-raw line 65 37 _
    (joined _ _ 65 37 _ _
    (joined _ _ 65 37 _ _ (eight_word line 54 55 1 (omega arith) _ _ c.name_eight.ensures c.moved-first.ensures) (eight_word line 54 55 9 (omega arith) _ _ c.name_eight-2.ensures c.moved-second.ensures))
    (eight_word line 54 55 13 (omega arith) _ _ c.name_eight-3.ensures c.moved.ensures))
