use mathlib.Core.Path.{◌≡◌}
use Rattle.text.specs.Bytes.{between}
use Rattle.element_sets.specs.ElementSets.{bits}
use Rattle.layout.specs.Page.{first_byte}
use Rattle.blanking.proofs.names.name_eight.Given as goal

abbrev pub invariant-loop-k : goal.invariant-loop-k
invariant-loop-k l = l.w ≡ bits (λ j. between l.bytes.0 l.bytes.1 (first_byte j l.line)) l.e l.k
