-- `faults::strays` meets its contract. Assumes nothing.
use Rattle.std.proofs.Common.{arith}
use Rattle.faults.proofs.Rounds.{around}
use Rattle.faults.proofs.strays.Goals as goal

pub returns : goal.returns
returns c = λ l.
    around _ _ _ _ _ l (omega arith) (omega arith) (omega arith) (omega arith) (omega arith) (omega arith)
