-- `recast_lines::tell` meets its contract. Assumes nothing.
use Prim.Native.Nat.{ℕ}
use Rattle.recasting.specs.Recast.{outcome_in, recast_of}
use mathlib.Core.Path.{◌∙◌, ap}
use Rattle.recast_lines.proofs.tell.Goals as goal

pub returns : goal.returns
returns c =
    let args = c.args in
    let outcome = c.recast-outcome.ensures.said ∙ ap (λ (n : ℕ). outcome_in 159 (recast_of args.line.now n)) c.number.ensures in
    rw outcome at c.put_outcome.ensures
