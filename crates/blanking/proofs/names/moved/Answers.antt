-- `blanking::names::moved` meets its contract. Assumes nothing.
use native.Mathlib.Omega.{arith}
use lib.Pow.{shl_exact}
use Rattle.blanking.proofs.names.moved.Goals as goal

pub returns : goal.returns
returns c = rw c.from.ensures (shl_exact 8 c.args.by 64 (omega arith) (omega arith))
