use Rattle.std.proofs.Common.{◌≡◌, ◌+◌, ◌-◌}
use Rattle.text.specs.First.{first_from, first_of}
use Rattle.layout.specs.Page.{start_of, legal}
use Rattle.layout.proofs.page.first_illegal.Given as goal

-- the loop stands at element e, and what is left to look at says the same as the whole
abbrev pub invariant-loop-e : goal.invariant-loop-e
invariant-loop-e l =
    (l.at ≡ start_of l.e) × (first_of l.e-end (legal l.edition l.line) ≡ first_from (legal l.edition l.line) l.e (l.e-end + 1 - l.e))
