-- `recast_lines::put_outcome` meets its contract. Assumes nothing.
use Rattle.wording.proofs.PutLaws.{within}
use mathlib.Core.Path.{refl}
use native.Mathlib.Omega.{arith}
use Rattle.recast_lines.proofs.put_outcome.Goals as goal

pub returns-in-Ok : goal.returns-in-Ok
returns-in-Ok c = rw c.in-Ok.is (record { adds = c.put_done.ensures; refuses = refl })

pub returns-in-Err : goal.returns-in-Err
returns-in-Err c = rw c.in-Err.is (record { adds = within (omega arith) c.put_refused.ensures; refuses = refl })
