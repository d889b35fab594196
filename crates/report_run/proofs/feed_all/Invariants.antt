-- Some of the piece is taken at each turn, and the lent buffer stays as long as it is.
use Rattle.std.proofs.Common.{length, ◌≤◌}
use Rattle.report_lines.specs.Says.{record_most}
use Rattle.report_run.proofs.feed_all.Given as goal

abbrev pub invariant-loop-rest : goal.invariant-loop-rest
invariant-loop-rest g l = record_most ≤ length l.out

abbrev pub decreases-loop-rest : goal.decreases-loop-rest
decreases-loop-rest g l = length l.rest
