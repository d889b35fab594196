-- `reporting::feed` meets its contract. Assumes nothing.
use Rattle.reporting.proofs.FeedLaws.{feeds}
use borrow.Author.Rules.{rules}
use mathlib.Core.Path.{refl}
use Rattle.reporting.proofs.feed.Goals as goal

pub returns : goal.returns
returns c = feeds _ c.take-taken.new.sheet c.of-taking.ensures c.run.ensures refl (search rules) c.take-taken.ensures.takes c.take-taken.ensures.stops
