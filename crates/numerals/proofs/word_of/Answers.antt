-- `numerals::word_of` meets its contract: the bytes that are left go on from the number so far, which is small enough for seven. Assumes nothing.
use Prim.Native.Nat.{◌*◌, ◌+◌, ◌<◌, ℕ}
use Rattle.numerals.proofs.Spellings.{byte_more, seven_bytes}
use Rattle.text.proofs.Numbers.{more, no_more}
use Rattle.text.specs.Bytes.{value_from}
use lib.ListN.{drop}
use mathlib.Core.Path.{◌∙◌, ap, refl, sym}
use native.Mathlib.Nat.{sub-zero}
use native.Mathlib.Omega.{arith}
use Rattle.numerals.proofs.word_of.Goals.{In-loop-b}
use Rattle.numerals.proofs.word_of.Goals as goal

small : (c : In-loop-b) → c.loop-b.n < 281474976710656
small c = seven_bytes _ _ c.loop-b.invariant.small (omega arith)

pub loop-b-init : goal.loop-b-init
loop-b-init c = record { small = omega arith; going_on = refl }

pub overflow_mul-n : goal.overflow_mul-n
overflow_mul-n c = omega (arith, small c)

pub overflow_add-n : goal.overflow_add-n
overflow_add-n c = omega (arith, small (goal.at.overflow_add-n c).In-loop-b, c.from.ensures)

pub loop-b-preserved : goal.loop-b-preserved
loop-b-preserved c = record {
  small = byte_more _ _ _ c.loop-b.invariant.small (omega (arith, c.from.ensures));
  going_on =
      c.loop-b.invariant.going_on ∙ more 256 0 _ _ _ c.loop-b-test.true ∙
      ap (λ (b : ℕ). value_from 256 0 (c.loop-b.n * 256 + b) (drop (c.loop-b.b-index + 1) c.args.text.now)) (sub-zero _ ∙ sym c.from.ensures);
}

pub returns : goal.returns
returns c = sym (c.loop-b.invariant.going_on ∙ no_more 256 0 _ _ _ c.loop-b-test.false)
