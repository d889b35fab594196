-- `blanking::names::name_version` meets its contract. Assumes nothing.
use mathlib.Core.Path.{refl}
use native.Mathlib.Omega.{arith}
use lib.Dec.{lit≤}
use Rattle.layout.specs.declared.Edition.TheVariants.{One}
use Rattle.layout.proofs.RecordLaws.{begins}
use Rattle.blanking.specs.LostBytes.{version_lost}
use Rattle.blanking.proofs.NameLaws.{joined, one_word, none_named, some_named}
use Rattle.blanking.proofs.names.name_version.Goals as goal

pub returns-then-not-back : goal.returns-then-not-back
unfolding version_lost
returns-then-not-back c = none_named version_lost (λ at b. refl) c.args.back c.if-not-back.true-raw c.args.line.now 1 64

pub name_one-requires : goal.name_one-requires
name_one-requires c = omega (arith, begins One 64 (lit≤ tt) (lit≤ tt))

pub name_one-requires-2 : goal.name_one-requires-2
name_one-requires-2 c = omega (arith, begins One 64 (lit≤ tt) (lit≤ tt))

pub returns : goal.returns
unfolding version_lost
returns c =
    let args = c.args in
    let line = args.line.now in
    some_named version_lost args.back c.if-not-back.false-raw line 1 64 _
    (joined _ _ 1 64 _ _ (one_word line 57 57 1 63 64 (omega arith) _ c.name_one.ensures) (one_word line 65 65 1 63 64 (omega arith) _ c.name_one-2.ensures))
