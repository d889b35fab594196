-- `reading_lines::tell` meets its contract. Assumes nothing.
use Rattle.reading_lines.proofs.ReadTold.{accepted_long, accepted_told, refused_told}
use native.Mathlib.Omega.{arith}
use Rattle.reading_lines.proofs.tell.Goals as goal

pub put_record-requires : goal.put_record-requires
put_record-requires c = (omega arith, accepted_long c.args.line.now _ _ c.read-all.ensures c.in-Ok.is)

pub returns-in-Ok : goal.returns-in-Ok
returns-in-Ok c = accepted_told _ c.args.line.now _ c.read-all.ensures (omega arith) _ c.in-Ok.is c.put_record.ensures

pub returns-in-Err : goal.returns-in-Err
returns-in-Err c = refused_told _ c.args.line.now _ c.read-all.ensures (omega arith) _ c.in-Err.is c.put_refused.ensures
