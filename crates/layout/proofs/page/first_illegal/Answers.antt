-- `layout::page::first_illegal` meets its contract: the loop stands at element e, and what is left to look at says the same as the whole. Assumes nothing.
use Prim.Native.Nat.{ℕ, ◌+◌, ◌≤◌}
use Rattle.layout.proofs.Elements.{legal_of, next, part, within}
use Rattle.layout.proofs.Parts.{own_width}
use Rattle.text.proofs.First.{begin, end, off, on, some_nonzero}
use Rattle.text.specs.First.{first_of, nonzero}
use lib.ListN.{length}
use mathlib.Core.Path.{◌∙◌, ◌≡◌, ap, refl, sym}
use native.Mathlib.Omega.{arith}
use Rattle.layout.specs.Page.{start_of, columns, legal}
use Rattle.layout.specs.Editions.{last_of}
use Rattle.layout.proofs.page.first_illegal.Goals.{After-width_of, After-is_legal}
use Rattle.layout.proofs.page.first_illegal.Goals as goal

-- the element's columns end within the record
ends : (c : After-width_of) → c.loop-e.at + c.width_of.result ≤ length c.args.line.now
ends c = within _ _ _ c.loop-e.invariant.0 c.width_of.ensures c.args.edition c.args.line.now _ c.last-e-end.ensures c.requires c.loop-e-test.true

answers : (c : After-is_legal) → c.is_legal.result ≡ legal c.args.edition c.args.line.now c.loop-e.e
answers c = legal_of _ _ _ _ (part _ _ _ c.loop-e.invariant.0 c.width_of.ensures _) _ c.is_legal.ensures

-- what is found up to the last element of the range is found in the edition
whole : (c : After-is_legal) → (k : ℕ) → first_of c.last-e-end.result (legal c.args.edition c.args.line.now) ≡ k →
    nonzero k ≡ nonzero (first_of (last_of c.args.edition) (legal c.args.edition c.args.line.now))
whole c k f = ap nonzero (sym f ∙ ap (λ (n : ℕ). first_of n (legal c.args.edition c.args.line.now)) c.last-e-end.ensures)

pub loop-e-init : goal.loop-e-init
unfolding start_of columns
loop-e-init c = (refl, begin (legal _ _) _)

pub overflow_add-end : goal.overflow_add-end
overflow_add-end c = omega (arith, ends c)

pub slice_bounds-is_legal-end : goal.slice_bounds-is_legal-end
slice_bounds-is_legal-end c = ends c

pub is_legal-requires : goal.is_legal-requires
is_legal-requires c = own_width _ _ _ (part _ _ _ c.loop-e.invariant.0 c.width_of.ensures _)

pub returns-then-not-is_legal : goal.returns-then-not-is_legal
returns-then-not-is_legal c =
    some_nonzero _ c.loop-e.auto.e ∙
    whole (goal.at.returns-then-not-is_legal c).After-is_legal _
    (c.loop-e.invariant.1 ∙ off (legal _ _) _ _ c.loop-e-test.true (sym (answers (goal.at.returns-then-not-is_legal c).After-is_legal) ∙ c.if-not-is_legal.true))

pub loop-e-preserved : goal.loop-e-preserved
loop-e-preserved c = (
  next _ _ _ c.loop-e.invariant.0 c.width_of.ensures,
  c.loop-e.invariant.1 ∙ on (legal _ _) _ _ c.loop-e-test.true (sym (answers (goal.at.loop-e-preserved c).After-is_legal) ∙ c.if-not-is_legal.false),
)

pub returns-else-not-is_legal : goal.returns-else-not-is_legal
returns-else-not-is_legal c =
    whole (goal.at.returns-else-not-is_legal c).After-is_legal _
    (c.loop-e.invariant.1 ∙ on (legal _ _) _ _ c.loop-e-test.true (sym (answers (goal.at.returns-else-not-is_legal c).After-is_legal) ∙ c.if-not-is_legal.false) ∙ end (legal _ _) _ _ (omega arith))
