-- `blanking::names::name_codes` meets its contract. Assumes nothing.
use mathlib.Core.Path.{refl}
use native.Mathlib.Omega.{arith}
use lib.Dec.{lit≤}
use Rattle.layout.specs.declared.Edition.TheVariants.{One}
use Rattle.layout.proofs.RecordLaws.{begins}
use Rattle.blanking.specs.LostBytes.{codes_lost}
use Rattle.blanking.proofs.NameLaws.{joined, one_word, none_named, some_named}
use Rattle.blanking.proofs.names.name_codes.Goals as goal

pub returns-then-not-changed : goal.returns-then-not-changed
unfolding codes_lost
returns-then-not-changed c = none_named codes_lost (λ at b. refl) c.args.changed c.if-not-changed.true-raw c.args.line.now 1 64

pub name_one-requires : goal.name_one-requires
name_one-requires c = omega (arith, begins One 40 (lit≤ tt) (lit≤ tt))

pub name_one-requires-2 : goal.name_one-requires-2
name_one-requires-2 c = omega (arith, begins One 40 (lit≤ tt) (lit≤ tt))

pub name_one-requires-3 : goal.name_one-requires-3
name_one-requires-3 c = omega (arith, begins One 41 (lit≤ tt) (lit≤ tt))

pub name_one-requires-4 : goal.name_one-requires-4
name_one-requires-4 c = omega (arith, begins One 41 (lit≤ tt) (lit≤ tt))

pub returns : goal.returns
unfolding codes_lost
returns c =
    let args = c.args in
    let line = args.line.now in
    some_named codes_lost args.changed c.if-not-changed.false-raw line 1 64 _
    (joined _ _ 1 64 _ _
    (joined _ _ 1 64 _ _
    (joined _ _ 1 64 _ _ (one_word line 49 49 1 39 64 (omega arith) _ c.name_one.ensures) (one_word line 52 52 1 39 64 (omega arith) _ c.name_one-2.ensures))
    (one_word line 52 52 1 40 64 (omega arith) _ c.name_one-3.ensures))
    (one_word line 55 57 1 40 64 (omega arith) _ c.name_one-4.ensures))
