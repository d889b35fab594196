-- `text::filled` meets its contract: all from n on are blanks. Assumes nothing.
use Rattle.text.proofs.Blanks.{goes_back, nothing_left, stops}
use Rattle.text.proofs.Every.{end}
use Rattle.text.specs.Bytes.{between}
use native.Mathlib.Nat.{le_refl}
use Rattle.text.proofs.filled.Goals as goal

pub loop-n-init : goal.loop-n-init
loop-n-init c = end (between 32 32) c.args.text.now _ (le_refl _)

pub returns-then-text-n-ne32-clause-text_value : goal.returns-then-text-n-ne32-clause-text_value
returns-then-text-n-ne32-clause-text_value c = stops _ _ c.loop-n.auto.n c.loop-n-test.true c.loop-n.invariant c.if-text-n-ne32.true

pub loop-n-preserved : goal.loop-n-preserved
loop-n-preserved c = goes_back _ _ c.loop-n.auto.n c.loop-n-test.true c.loop-n.invariant c.if-text-n-ne32.false

pub returns-clause-text_value : goal.returns-clause-text_value
returns-clause-text_value c = nothing_left _ _ c.loop-n-test.false c.loop-n.invariant
