-- `text::number_of` meets its contract: the digits that are left go on from the number so far, which is small enough for seven. Assumes nothing.
use Prim.Native.Nat.{◌*◌, ◌+◌, ◌<◌, ℕ}
use Rattle.text.proofs.Numbers.{below_more, below_seven, more, no_more}
use Rattle.text.specs.Bytes.{number_from}
use lib.ListN.{drop}
use mathlib.Core.Path.{◌∙◌, ap, sym}
use native.Mathlib.Omega.{arith}
use Rattle.text.proofs.number_of.Goals.{In-loop-b}
use Rattle.text.proofs.number_of.Goals as goal

small : (c : In-loop-b) → c.loop-b.n < 230000000
small c = below_seven _ _ c.loop-b.invariant.small (omega arith)

pub overflow_mul-n : goal.overflow_mul-n
overflow_mul-n c = omega (arith, small c)

pub overflow_add-n : goal.overflow_add-n
overflow_add-n c = omega (arith, small (goal.at.overflow_add-n c).In-loop-b, c.from.ensures, c.saturating_sub.ensures)

pub loop-b-preserved : goal.loop-b-preserved
loop-b-preserved c = record {
  small = below_more _ _ _ c.loop-b.invariant.small (omega (arith, c.from.ensures, c.saturating_sub.ensures));
  going_on =
      c.loop-b.invariant.going_on ∙ more 10 48 _ _ _ c.loop-b-test.true ∙
      ap (λ (d : ℕ). number_from (c.loop-b.n * 10 + d) (drop (c.loop-b.b-index + 1) c.args.text.now))
      (sym (c.from.ensures ∙ c.saturating_sub.ensures));
}

pub returns : goal.returns
returns c = sym (c.loop-b.invariant.going_on ∙ no_more 10 48 _ _ _ c.loop-b-test.false)
