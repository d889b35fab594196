-- The lent buffer stays as long as it is.
use Rattle.std.proofs.Common.{length, ◌≤◌}
use Rattle.report_lines.specs.Says.{record_most}
use Rattle.report_run.proofs.move_all.Given as goal

abbrev pub invariant-loop : goal.invariant-loop
invariant-loop g l = record_most ≤ length l.out
