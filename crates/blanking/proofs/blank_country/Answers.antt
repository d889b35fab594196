-- `blanking::blank_country` meets its contract. Assumes nothing.
use mathlib.Core.Path.{refl}
use native.Mathlib.Omega.{arith}
use lib.Dec.{lit≤}
use Rattle.layout.proofs.Columns.{start_shared}
use Rattle.blanking.specs.LostBytes.{country_lost}
use Rattle.blanking.proofs.Blanked.{idle, taken}
use Rattle.blanking.proofs.blank_country.Goals as goal

pub returns-then-not-crossing : goal.returns-then-not-crossing
unfolding country_lost
returns-then-not-crossing c = idle country_lost (λ at b. refl) c.args.crossing c.if-not-crossing.true-raw _

pub blank-requires : goal.blank-requires
blank-requires c = ((lit≤ tt, omega (arith, start_shared 44 (lit≤ tt))), lit≤ tt)

pub returns : goal.returns
unfolding country_lost
returns c =
    taken country_lost c.args.crossing c.if-not-crossing.false-raw _ _ c.blank.ensures
