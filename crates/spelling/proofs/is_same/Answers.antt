-- `spelling::is_same` meets its contract. Assumes nothing.
use Rattle.spelling.proofs.SameLaws.{same_equal, same_self}
use Rattle.std.specs.Bool.{Decides}
use Rattle.std.proofs.lemmas.Bool.Decides.{same_from_decides}
use Rattle.std.proofs.lemmas.Grind.{common_steps}
use Rattle.spelling.specs.Same.{same}
use mathlib.Core.Path.{◌≡◌}
use native.Mathlib.Omega.{arith}
use Rattle.spelling.proofs.is_same.Goals as goal

pub returns : goal.returns
returns c =
    let d : Decides c.eq.result (c.args.a ≡ c.args.b) = grind (arith, common_steps, c.eq.ensures) in
    same_from_decides c.eq.result (same c.args.a c.args.b) d (same_equal _ _, λ e. rw e (same_self _))
