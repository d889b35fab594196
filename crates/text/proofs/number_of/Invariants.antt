use Prim.Native.Nat.{◌*◌, ◌+◌, ◌^◌, ◌≤◌}
use Rattle.text.specs.Bytes.{number, number_from}
use lib.ListN.{drop}
use mathlib.Core.Path.{◌≡◌}
use Rattle.text.proofs.number_of.Given as goal

abbrev pub invariant-loop-b : goal.invariant-loop-b
invariant-loop-b l = record { small : l.n + 23 ≤ 23 * 10 ^ l.b-index; going_on : number l.text ≡ number_from l.n (drop l.b-index l.text) }
