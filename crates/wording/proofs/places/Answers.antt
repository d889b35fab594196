-- `wording::places` meets its contract: those counted and those that are left are all. Assumes nothing.
use Rattle.wording.proofs.WordingLaws.{count_end, count_starts, count_turn}
use borrow.Author.Rules.{rules}
use mathlib.Core.Path.{◌∙◌}
use native.Mathlib.Omega.{arith}
use Rattle.wording.proofs.places.Goals as goal

pub loop-left-init : goal.loop-left-init
loop-left-init c = (search rules, count_starts _ (omega arith))

pub loop-left-preserved : goal.loop-left-preserved
loop-left-preserved c = let turn = count_turn _ _ c.loop-left.invariant.0 c.loop-left.invariant.1.0 (omega arith) in (turn.0, (turn.1.0, turn.1.1 ∙ c.loop-left.invariant.1.1))

pub returns : goal.returns
returns c = count_end _ _ c.loop-left.invariant.0 c.loop-left.invariant.1.0 (omega arith) ∙ c.loop-left.invariant.1.1
