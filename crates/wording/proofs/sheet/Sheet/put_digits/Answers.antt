-- `Sheet::put_digits` meets its contract: placing what is left to spell gives what placing the whole gave. Assumes nothing.
use Rattle.numerals.proofs.Spellings.{put_end, put_turn, spelled_length}
use mathlib.Core.Path.{◌∙◌, refl, ap, sym}
use Prim.Native.Nat.{◌+◌}
use native.Mathlib.Omega.{arith}
use Rattle.wording.proofs.sheet.Sheet.put_digits.Goals as goal

pub loop-k-preserved : goal.loop-k-preserved
loop-k-preserved c = put_turn 10 48 _ c.loop-k.k c.loop-k.left c.loop-k.out c.loop-k-test.true (omega arith) ∙ c.loop-k.invariant

pub returns : goal.returns
returns c = record {
  same_buffer = refl;
  same_length = c.loop-k.auto.out;
  puts = record {
    stands = put_end 10 48 _ c.loop-k.k c.loop-k.left c.loop-k.out c.loop-k-test.false ∙ c.loop-k.invariant;
    ends = ap (λ w. c.args.self.now.end + w) (sym (spelled_length 10 48 c.args.width c.args.n));
  };
  upper_bound = omega arith;
}
