-- `blanking::blank` meets its contract. Assumes nothing.
use Prim.Native.Nat.{ℕ, ◌+◌, ◌-◌, ◌≤◌}
use mathlib.Core.Path.{◌∙◌, ap}
use native.Mathlib.Omega.{arith}
use Rattle.layout.proofs.Columns.{start_rises}
use Rattle.blanking.proofs.Blanked.{as_run}
use Rattle.blanking.proofs.blank.Goals.{After-start_of}
use Rattle.blanking.proofs.blank.Goals as goal

-- the elements end where or after they begin
rises : (c : After-start_of) → c.start_of-at.result ≤ c.start_of.result
rises c =
    let args = c.args in
    omega (arith, c.start_of-at.ensures, c.start_of.ensures, start_rises args.first (args.last + 1) (omega arith))

pub overflow_sub-start_of : goal.overflow_sub-start_of
overflow_sub-start_of c = rises c

pub blank_run-requires : goal.blank_run-requires
blank_run-requires c =
    omega (arith, rises c, c.start_of.ensures)

pub returns : goal.returns
returns c =
    c.blank_run.ensures ∙ as_run c.args.first c.args.last c.args.bytes.0 c.args.bytes.1 c.requires.0.0 _ _ _ c.start_of-at.ensures (ap (λ (n : ℕ). n - c.start_of-at.result) c.start_of.ensures)
