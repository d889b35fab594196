-- `blanking::blank_later` meets its contract. Assumes nothing.
use mathlib.Core.Bool.{false}
use mathlib.Core.Path.{refl}
use native.Mathlib.Omega.{arith}
use lib.Dec.{lit≤}
use Rattle.layout.proofs.Columns.{start_below}
use Rattle.blanking.specs.LostBytes.{some, later_lost}
use Rattle.blanking.proofs.Blanked.{then, idle, taken}
use Rattle.blanking.proofs.blank_later.Goals as goal

pub returns-then-not-back : goal.returns-then-not-back
unfolding later_lost
returns-then-not-back c = idle (later_lost false) (λ at b. refl) c.args.back c.if-not-back.true-raw _

pub blank-requires : goal.blank-requires
blank-requires c = ((lit≤ tt, omega (arith, start_below 87 (lit≤ tt))), lit≤ tt)

pub blank-requires-2 : goal.blank-requires-2
blank-requires-2 c = ((lit≤ tt, omega (arith, start_below 102 (lit≤ tt))), lit≤ tt)

pub returns : goal.returns
unfolding later_lost
returns c =
    taken (later_lost false) c.args.back c.if-not-back.false-raw _ _ (then (some 86 86 54 54) (some 94 101 54 55) _ _ _ c.blank.ensures c.blank-2.ensures)
