-- `spelling::put_all` meets its contract: the loop stands at element e, and what is in front and what is left to spell are the whole row. Assumes nothing.
use Prim.Native.Nat.{ℕ, ◌+◌, ◌≤◌}
use Rattle.layout.specs.Page.{start_of, columns}
use Rattle.reading.proofs.ReadingLaws.{lead_is, Lead}
use Rattle.reading.specs.Readings as Reads
use Rattle.spelling.proofs.RowLaws.{row_end, row_turn, within}
use Rattle.spelling.specs.Spelled.{given, numeral_for}
use mathlib.Core.Path.{◌∙◌, ◌≡◌, ap, refl, sym}
use native.Mathlib.Omega.{arith}
use Rattle.spelling.proofs.put_all.Goals.{After-width_of-width, After-lead_of-k, After-numeral_for}
use Rattle.spelling.proofs.put_all.Goals as goal

-- the element's columns end where the next one's start, within the row
ends : (c : After-width_of-width) → (c.loop-e.at + c.width_of-width.result ≡ start_of (c.loop-e.e + 1)) × (c.loop-e.at + c.width_of-width.result ≤ 159)
ends c = within _ _ _ c.loop-e.invariant.1.0 c.width_of-width.ensures (omega arith)

lead : (c : After-lead_of-k) → Lead c.loop-e.e c.lead_of-k.result
lead c = rw c.lead_of-k.ensures (lead_is _ c.loop-e.auto.e)

numeral : (c : After-numeral_for) →
    c.numeral_for.result ≡ numeral_for c.args.edition c.loop-e.e (given c.args.entries (Reads.lead c.loop-e.e))
numeral c =
    c.numeral_for.ensures.value ∙ ap (λ (l : ℕ). numeral_for c.args.edition c.loop-e.e (given c.args.entries l)) c.lead_of-k.ensures

pub loop-e-init : goal.loop-e-init
unfolding start_of columns
loop-e-init c = (c.requires, (refl, refl))

pub overflow_sub-k : goal.overflow_sub-k
overflow_sub-k c = omega (arith, lead c)

pub put-requires : goal.put-requires
put-requires c = (omega (arith, (ends (goal.at.put-requires c).After-width_of-width).1, c.loop-e.invariant.0), c.numeral_for.ensures.base_nonzero)

pub overflow_add-at : goal.overflow_add-at
overflow_add-at c = omega (arith, (ends (goal.at.overflow_add-at c).After-width_of-width).1)

pub loop-e-preserved : goal.loop-e-preserved
loop-e-preserved c =
    let inv = c.loop-e.invariant in
    let at = ends (goal.at.loop-e-preserved c).After-width_of-width in
    (c.put.auto.buffer ∙ inv.0, (at.0, rw c.put.ensures (row_turn c.args.edition c.args.entries _ c.loop-e.row c.loop-e.at c.loop-e.e inv.1.1 c.width_of-width.result c.numeral_for.result (omega arith) (omega (arith, at.1, inv.0)) c.width_of-width.ensures (numeral (goal.at.loop-e-preserved c).After-numeral_for))))

pub shape_of-row : goal.shape_of-row
shape_of-row c = c.loop-e.invariant.0 ∙ sym c.requires

pub returns : goal.returns
returns c = row_end _ _ _ _ _ _ c.loop-e.invariant.1.1 c.loop-e.invariant.0 c.loop-e.invariant.1.0 (omega arith) (omega arith)
