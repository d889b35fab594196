-- `columns::part` meets its contract. Assumes nothing.
use mathlib.Core.Bool.{◌||◌}
use borrow.Author.Count.{below_more, below_none}
use native.Mathlib.Omega.{arith}
use Rattle.columns.proofs.Ranges.{judge, neither_of, range_of}
use Rattle.columns.proofs.part.Goals as goal

pub loop-k-init : goal.loop-k-init
loop-k-init c = λ e. below_none _

pub loop-k-preserved : goal.loop-k-preserved
loop-k-preserved c =
    let loop = c.loop-k in
    let outside = c.outside in
    λ e. let r = neither_of loop.bad (outside.result || c.apart.result) loop.invariant (judge outside.result c.apart.result outside.ensures c.apart.ensures) e in
    below_more _ _ r.0 r.1

pub returns : goal.returns
returns c = λ z ed rows. range_of ed _ _ _ (λ j h. c.loop-k.invariant z j (omega arith)) rows
