use Prim.Native.Nat.{◌<◌, ◌^◌}
use Rattle.text.specs.Bytes.{value_from, word}
use lib.ListN.{drop}
use mathlib.Core.Path.{◌≡◌}
use Rattle.numerals.proofs.word_of.Given as goal

abbrev pub invariant-loop-b : goal.invariant-loop-b
invariant-loop-b l = record { small : l.n < 256 ^ l.b-index; going_on : word l.text ≡ value_from 256 0 l.n (drop l.b-index l.text) }
