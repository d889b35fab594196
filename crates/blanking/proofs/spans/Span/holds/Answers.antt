-- `blanking::spans::Span::holds` meets its contract. Assumes nothing.
use Rattle.std.proofs.Common.{ap, ◌∙◌, not}
use Rattle.std.proofs.Math.Bool.{not-not}
use Rattle.blanking.proofs.spans.Span.holds.Goals as goal

pub returns : goal.returns
returns c = rw (← c.self.view_is) (ap not (c.strays.ensures c.self.invariant) ∙ not-not _)
