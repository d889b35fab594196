use Rattle.text.specs.Bytes.{blank}
use lib.ListN.{drop}
use mathlib.Core.Bool.{true}
use mathlib.Core.Path.{◌≡◌}
use Rattle.text.proofs.filled.Given as goal

abbrev pub invariant-loop-n : goal.invariant-loop-n
invariant-loop-n l = blank (drop l.n l.text) ≡ true
