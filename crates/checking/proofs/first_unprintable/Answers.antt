-- `checking::first_unprintable` meets its contract. Assumes nothing.
use mathlib.Core.Path.{◌∙◌, ap, sym}
use Rattle.std.proofs.Common.{arith, ◌≡◌, ◌-◌, length}
use Rattle.text.specs.First.{nonzero, first_from}
use Rattle.text.proofs.First.{end, off, on, some_nonzero, none_nonzero}
use Rattle.checking.specs.Check.{printable_at}
use Rattle.checking.proofs.Placed.{printed, printable_run}
use Rattle.checking.proofs.first_unprintable.Goals as goal

pub loop-at-init : goal.loop-at-init
loop-at-init c =
    let all : length c.args.line.now ≡ length c.args.line.now - 0 = omega arith in
    (omega arith, ap (first_from (printable_at c.args.line.now) 1) all)

pub loop-at-preserved : goal.loop-at-preserved
loop-at-preserved c = (omega arith, c.loop-at.invariant.1 ∙ printable_run _ _ _ (omega arith) (omega arith) (sym c.are_printable.ensures ∙ c.if-not-are_printable.false))

pub returns-then-not-is_printable : goal.returns-then-not-is_printable
returns-then-not-is_printable c =
    some_nonzero _ (omega arith) ∙
    ap nonzero (sym (c.loop-c.invariant ∙ off (printable_at _) _ _ (omega arith) (sym (printed _ _ (omega arith) (omega arith) c.is_printable.ensures) ∙ c.if-not-is_printable.true)))

pub loop-c-preserved : goal.loop-c-preserved
loop-c-preserved c =
    c.loop-c.invariant ∙ on (printable_at _) _ _ (omega arith) (sym (printed _ _ (omega arith) (omega arith) c.is_printable.ensures) ∙ c.if-not-is_printable.false)

pub returns : goal.returns
returns c = none_nonzero _ (c.loop-c.invariant ∙ end (printable_at _) _ _ (omega arith))
