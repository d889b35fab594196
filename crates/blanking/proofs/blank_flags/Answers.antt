-- `blanking::blank_flags` meets its contract. Assumes nothing.
use mathlib.Core.Bool.{◌||◌}
use mathlib.Core.Path.{refl}
use native.Mathlib.Omega.{arith}
use lib.Dec.{lit≤}
use Rattle.layout.proofs.Columns.{start_shared}
use Rattle.blanking.specs.LostBytes.{some, flags_lost}
use Rattle.blanking.proofs.Blanked.{then, idle, taken}
use Rattle.blanking.proofs.blank_flags.Goals as goal

pub returns-then-not-back : goal.returns-then-not-back
unfolding flags_lost
returns-then-not-back c = idle flags_lost (λ at b. refl) c.args.back c.if-not-back.true-raw _

pub blank-requires : goal.blank-requires
blank-requires c = ((lit≤ tt, omega (arith, start_shared 74 (lit≤ tt))), lit≤ tt)

pub blank-requires-2 : goal.blank-requires-2
blank-requires-2 c = ((lit≤ tt, omega (arith, start_shared 82 (lit≤ tt))), lit≤ tt)

pub blank-requires-3 : goal.blank-requires-3
blank-requires-3 c = ((lit≤ tt, omega (arith, start_shared 86 (lit≤ tt))), lit≤ tt)

pub returns : goal.returns
unfolding flags_lost
returns c =
    taken flags_lost c.args.back c.if-not-back.false-raw _ _ (then (λ at b. some 66 73 54 55 at b || some 74 81 54 55 at b) (some 78 85 54 55) _ _ _
    (then (some 66 73 54 55) (some 74 81 54 55) _ _ _ c.blank.ensures c.blank-2.ensures) c.blank-3.ensures)
