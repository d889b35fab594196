-- `blanking::blank_codes` meets its contract. Assumes nothing.
use mathlib.Core.Bool.{◌||◌}
use mathlib.Core.Path.{refl}
use native.Mathlib.Omega.{arith}
use lib.Dec.{lit≤}
use Rattle.layout.proofs.Columns.{start_shared}
use Rattle.blanking.specs.LostBytes.{some, codes_lost}
use Rattle.blanking.proofs.Blanked.{then, idle, taken}
use Rattle.blanking.proofs.blank_codes.Goals as goal

pub returns-then-not-changed : goal.returns-then-not-changed
unfolding codes_lost
returns-then-not-changed c = idle codes_lost (λ at b. refl) c.args.changed c.if-not-changed.true-raw _

pub blank-requires : goal.blank-requires
blank-requires c = ((lit≤ tt, omega (arith, start_shared 41 (lit≤ tt))), lit≤ tt)

pub blank-requires-2 : goal.blank-requires-2
blank-requires-2 c = ((lit≤ tt, omega (arith, start_shared 41 (lit≤ tt))), lit≤ tt)

pub blank-requires-3 : goal.blank-requires-3
blank-requires-3 c = ((lit≤ tt, omega (arith, start_shared 42 (lit≤ tt))), lit≤ tt)

pub blank-requires-4 : goal.blank-requires-4
blank-requires-4 c = ((lit≤ tt, omega (arith, start_shared 42 (lit≤ tt))), lit≤ tt)

pub returns : goal.returns
unfolding codes_lost
returns c =
    taken codes_lost c.args.changed c.if-not-changed.false-raw _ _ (then (λ at b. (some 40 40 49 49 at b || some 40 40 52 52 at b) || some 41 41 52 52 at b) (some 41 41 55 57) _ _ _
    (then (λ at b. some 40 40 49 49 at b || some 40 40 52 52 at b) (some 41 41 52 52) _ _ _
    (then (some 40 40 49 49) (some 40 40 52 52) _ _ _ c.blank.ensures c.blank-2.ensures) c.blank-3.ensures) c.blank-4.ensures)
