-- `blanking::names::name_later` meets its contract. Assumes nothing.
use mathlib.Core.Bool.{false}
use mathlib.Core.Path.{refl}
use native.Mathlib.Omega.{arith}
use lib.Dec.{lit≤}
use Rattle.layout.specs.declared.Edition.TheVariants.{Three}
use Rattle.layout.proofs.RecordLaws.{begins}
use Rattle.layout.proofs.Columns.{start_below}
use Rattle.blanking.specs.LostBytes.{later_lost}
use Rattle.blanking.proofs.NameLaws.{joined, one_word, eight_word, none_named, some_named}
use Rattle.blanking.proofs.names.name_later.Goals as goal

pub returns-then-not-back : goal.returns-then-not-back
unfolding later_lost
returns-then-not-back c = none_named (later_lost false) (λ at b. refl) c.args.back c.if-not-back.true-raw c.args.line.now 65 37

pub name_one-requires : goal.name_one-requires
name_one-requires c = omega (arith, begins Three 86 (lit≤ tt) (lit≤ tt))

pub name_eight-requires : goal.name_eight-requires
name_eight-requires c = ((lit≤ tt, lit≤ tt), omega (arith, start_below 102 (lit≤ tt)))

pub returns : goal.returns
unfolding later_lost
returns c =
    let args = c.args in
    let line = args.line.now in
    some_named (later_lost false) args.back c.if-not-back.false-raw line 65 37 _
    (joined _ _ 65 37 _ _ (one_word line 54 54 65 21 37 (omega arith) _ c.name_one.ensures) (eight_word line 54 55 29 (omega arith) _ _ c.name_eight.ensures c.moved.ensures))
