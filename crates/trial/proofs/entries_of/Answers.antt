-- `trial::entries_of` meets its contract: the loop stands before element k + 1, and the entries below it are filled. Assumes nothing.
use Prim.Native.Nat.{◌+◌, ◌-◌}
use Rattle.reading.proofs.EntryLaws.{fill_end, fill_turn}
use Rattle.reading.specs.Answers.{entries_from}
use Rattle.trial.specs.Packed.{reading_at}
use mathlib.Core.Path.{◌∙◌, ◌≡◌, ap, refl, sym}
use native.Mathlib.Omega.{arith}
use Rattle.trial.proofs.entries_of.Goals as goal

pub loop-k-init : goal.loop-k-init
unfolding entries_from
loop-k-init c = refl

pub loop-k-preserved : goal.loop-k-preserved
loop-k-preserved c =
    let k = c.loop-k.k in
    let back : k + 1 - 1 ≡ k = omega arith in
    fill_turn _ (k + 1) _ c.loop-k.invariant k (omega arith) (omega arith) _ (c.reading_at.ensures ∙ ap (reading_at _ _) (sym back))

pub returns : goal.returns
returns c = fill_end _ _ _ c.loop-k.invariant (λ i l h. absurd (omega (arith, c.loop-k-test.false)))
