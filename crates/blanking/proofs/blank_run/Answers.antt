-- `blanking::blank_run` meets its contract. Assumes nothing.
use mathlib.Core.Path.{◌≡◌, refl, ap, ◌∙◌}
use Prim.Native.Nat.{ℕ, ◌+◌, ◌-◌, ◌≤◌}
use mathlib.Core.List.{List}
use lib.ListN.{length}
use native.Mathlib.Omega.{arith}
use borrow.Rule.Slice.PartMut.{mid_of, mid_len, put_same}
use Rattle.blanking.specs.LostBytes.{run, blanked_by}
use Rattle.blanking.proofs.Blanked.{no_run, part_on}
use Rattle.blanking.proofs.blank_run.Goals as goal

pub loop-b-init : goal.loop-b-init
loop-b-init c =
    let args = c.args in
    put_same args.at _ args.row.now ∙ no_run args.bytes.0 args.bytes.1 args.row.now args.at 0 refl

-- so many columns are in the run
count : (at n : ℕ) (row : List ℕ) → at + n ≤ length row → length (mid_of at (at + n - at) row) ≡ n
count at n row h = mid_len at (at + n) row h ∙ omega arith

pub loop-b-preserved : goal.loop-b-preserved
loop-b-preserved c =
    let args = c.args in
    let loop = c.loop-b in
    let all = count args.at args.n args.row.now c.requires in
    part_on args.at _ args.row.now _ loop.b-index (omega arith) (omega (arith, all, loop.auto.b-items)) args.bytes.0 args.bytes.1 loop.invariant _ c.holds.ensures _ c.left.ensures

pub returns : goal.returns
returns c =
    let loop = c.loop-b in
    let args = c.args in
    let all : loop.b-index ≡ args.n = omega (arith, count args.at args.n args.row.now c.requires, loop.auto.b-index-end) in
    loop.invariant ∙ ap (λ (n : ℕ). blanked_by (run args.at n args.bytes.0 args.bytes.1) args.row.now) all
