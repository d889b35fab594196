-- `ties::first_broken` meets its contract. Assumes nothing.
use Rattle.std.proofs.Common.{rules}
use native.Mathlib.Omega.{arith}
use Rattle.layout.proofs.Finds.{lowest_found}
use Rattle.ties.specs.Ties.{tie, first_broken}
use Rattle.ties.proofs.first_broken.Goals as goal

pub returns : goal.returns
unfolding first_broken
returns c =
    lowest_found (tie c.args.edition c.args.line.now) 1 _ _ _ _ (omega arith) c.new.ensures.start c.new.ensures.end c.new.ensures.exhausted c.find.ensures.ran
    (λ x t q k. search rules)
