-- Some of the bytes are written at each turn.
use Rattle.std.proofs.Common.{length}
use Rattle.report_run.proofs.write_all.Given as goal

abbrev pub decreases-loop-rest : goal.decreases-loop-rest
decreases-loop-rest g l = length l.rest
