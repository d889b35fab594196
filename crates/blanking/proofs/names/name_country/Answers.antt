-- `blanking::names::name_country` meets its contract. Assumes nothing.
use mathlib.Core.Path.{refl}
use native.Mathlib.Omega.{arith}
use lib.Dec.{lit≤}
use Rattle.layout.specs.declared.Edition.TheVariants.{One}
use Rattle.layout.proofs.RecordLaws.{begins}
use Rattle.blanking.specs.LostBytes.{country_lost}
use Rattle.blanking.proofs.NameLaws.{one_word, none_named, some_named}
use Rattle.blanking.proofs.names.name_country.Goals as goal

pub returns-then-not-crossing : goal.returns-then-not-crossing
unfolding country_lost
returns-then-not-crossing c = none_named country_lost (λ at b. refl) c.args.crossing c.if-not-crossing.true-raw c.args.line.now 1 64

pub name_one-requires : goal.name_one-requires
name_one-requires c = omega (arith, begins One 43 (lit≤ tt) (lit≤ tt))

pub returns : goal.returns
unfolding country_lost
returns c =
    let args = c.args in
    let line = args.line.now in
    some_named country_lost args.crossing c.if-not-crossing.false-raw line 1 64 _ (one_word line 33 126 1 42 64 (omega arith) _ c.name_one.ensures)
