-- `places::column_12::first_digit` meets its contract. Assumes nothing.
use Rattle.places.proofs.DigitLaws.{begins, ended, passed, taken}
use Rattle.places.proofs.Demand3Digits.{digit_found}
use native.Mathlib.Omega.{arith}
use Rattle.places.proofs.column_12.first_digit.Goals as goal

pub loop-b-init : goal.loop-b-init
loop-b-init c = begins _ _ _ _ _

pub returns-then-is_suited : goal.returns-then-is_suited
returns-then-is_suited c = taken _ _ _ _ _ _ _ _ c.from.ensures c.is_suited.ensures c.loop-b.invariant (omega (arith, c.loop-b-test.true)) c.if-is_suited.true

pub loop-b-preserved : goal.loop-b-preserved
loop-b-preserved c = passed _ _ _ _ _ _ _ _ c.from.ensures c.is_suited.ensures c.loop-b.invariant (omega (arith, c.loop-b-test.true)) c.if-is_suited.false

pub returns : goal.returns
returns c =
    let way = c.args.way in
    let figures = c.args.figures in
    let found = digit_found way.from way.to figures.digit figures.latitude figures.longitude in
    let low = c.loop-b.auto.b-end (omega arith) in
    omega (arith, low, c.loop-b-test.false, ended _ _ _ _ _ _ c.loop-b.invariant low (omega (arith, c.loop-b-test.false)) (omega (arith, found.is)))
