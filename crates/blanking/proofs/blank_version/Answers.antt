-- `blanking::blank_version` meets its contract. Assumes nothing.
use mathlib.Core.Path.{refl}
use native.Mathlib.Omega.{arith}
use lib.Dec.{lit≤}
use Rattle.layout.proofs.Columns.{start_shared}
use Rattle.blanking.specs.LostBytes.{some, version_lost}
use Rattle.blanking.proofs.Blanked.{then, idle, taken}
use Rattle.blanking.proofs.blank_version.Goals as goal

pub returns-then-not-back : goal.returns-then-not-back
unfolding version_lost
returns-then-not-back c = idle version_lost (λ at b. refl) c.args.back c.if-not-back.true-raw _

pub blank-requires : goal.blank-requires
blank-requires c = ((lit≤ tt, omega (arith, start_shared 65 (lit≤ tt))), lit≤ tt)

pub blank-requires-2 : goal.blank-requires-2
blank-requires-2 c = ((lit≤ tt, omega (arith, start_shared 65 (lit≤ tt))), lit≤ tt)

pub returns : goal.returns
unfolding version_lost
returns c =
    taken version_lost c.args.back c.if-not-back.false-raw _ _ (then (some 64 64 57 57) (some 64 64 65 65) _ _ _ c.blank.ensures c.blank-2.ensures)
