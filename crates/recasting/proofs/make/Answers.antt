-- `recasting::make` meets its contract. Assumes nothing.
use mathlib.Core.List.{List}
use mathlib.Core.Path.{◌≡◌, ap, ◌∙◌}
use Prim.Native.Nat.{ℕ}
use native.Mathlib.Omega.{arith}
use lib.Dec.{lit≤}
use lib.ListN.{length, set}
use Rattle.layout.specs.Editions.{length_of}
use Rattle.layout.specs.Page.{start_of}
use Rattle.layout.proofs.Beyond.{last_above}
use Rattle.layout.proofs.RecordLaws.{begins}
use Rattle.recasting.proofs.MakeLaws.{acceptable, prepared, after_long, as_recast}
use Rattle.recasting.proofs.RecastLaws.{accepted_long}
use Rattle.recasting.proofs.make.Goals.{After-blank_lost}
use Rattle.recasting.proofs.make.Goals as goal

-- it has the target's length
long : (c : After-blank_lost) → length c.blank_lost.new.row ≡ length_of c.args.way.to
long c =
    after_long c.args.way.from c.args.way.to c.args.line.now c.requires.0 _ c.fill.ensures _ c.blank_lost.auto.row c.blank_lost.ensures

pub fill-requires : goal.fill-requires
fill-requires c =
    ((acceptable c.args.way.from c.args.way.to c.args.line.now c.requires.0).full, c.requires.1)

pub blank_lost-requires : goal.blank_lost-requires
blank_lost-requires c =
    prepared c.args.way.from c.args.way.to c.args.line.now c.requires.0 _ c.fill.ensures

pub hemisphere_of-requires : goal.hemisphere_of-requires
hemisphere_of-requires c = accepted_long _ _ c.requires.0

pub put-requires : goal.put-requires
put-requires c =
    let to = c.args.way.to in
    omega (arith, long (goal.at.put-requires c).After-blank_lost, begins to 6 (lit≤ tt) (omega (arith, last_above to)))

pub put-requires-2 : goal.put-requires-2
put-requires-2 c =
    let to = c.args.way.to in
    omega (arith, c.put.auto.row, long (goal.at.put-requires-2 c).After-blank_lost, begins to 65 (lit≤ tt) (omega (arith, last_above to)))

pub returns : goal.returns
returns c =
    c.put-2.ensures ∙ ap (λ (row : List ℕ). set row (start_of 65) c.digit_of.result) c.put.ensures ∙
    as_recast c.args.way.from c.args.way.to c.args.line.now c.requires.0 _ c.fill.ensures _ c.blank_lost.auto.row c.blank_lost.ensures _ _
    c.hemisphere_of.ensures c.digit_of.ensures
