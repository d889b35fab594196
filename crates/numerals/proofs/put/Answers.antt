-- `numerals::put` meets its contract: placing what is left to spell gives what placing the whole gave. Assumes nothing.
use Rattle.numerals.proofs.Spellings.{put_end, put_turn}
use mathlib.Core.Path.{◌∙◌}
use native.Mathlib.Omega.{arith}
use Rattle.numerals.proofs.put.Goals as goal

pub loop-k-preserved : goal.loop-k-preserved
loop-k-preserved c =
    put_turn c.args.numeral.base c.args.numeral.nought c.args.at c.loop-k.k c.loop-k.n c.loop-k.buffer c.loop-k-test.true (omega arith)
    ∙ c.loop-k.invariant

pub returns : goal.returns
returns c = put_end c.args.numeral.base c.args.numeral.nought c.args.at c.loop-k.k c.loop-k.n c.loop-k.buffer c.loop-k-test.false ∙ c.loop-k.invariant
