-- `blanking::names::name_eight` meets its contract. Assumes nothing.
use mathlib.Core.Path.{refl, ap, ◌∙◌}
use Prim.Native.Nat.{◌+◌}
use native.Mathlib.Omega.{arith}
use Rattle.text.specs.Bytes.{between}
use Rattle.element_sets.specs.ElementSets.{bits}
use Rattle.layout.specs.Page.{first_byte}
use Rattle.layout.proofs.Columns.{start_next, start_rises, some_column}
use Rattle.blanking.proofs.NameLaws.{byte_on}
use Rattle.blanking.proofs.names.name_eight.Goals as goal

pub loop-k-init : goal.loop-k-init
unfolding bits
loop-k-init c = refl

pub first_byte-requires : goal.first_byte-requires
first_byte-requires c =
    let e = c.args.e + c.loop-k.k in
    omega (arith, start_next e, start_rises (e + 1) (c.args.e + 8) (omega arith), some_column e (omega arith) (omega arith))

pub loop-k-preserved : goal.loop-k-preserved
loop-k-preserved c =
    let args = c.args in
    byte_on (λ j. between args.bytes.0 args.bytes.1 (first_byte j args.line.now)) args.e _ _ c.loop-k.invariant _
    (c.holds.ensures ∙ ap (between args.bytes.0 args.bytes.1) c.first_byte.ensures) _ c.bit-w.ensures (omega arith)
