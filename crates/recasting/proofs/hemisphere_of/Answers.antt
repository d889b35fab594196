-- `recasting::hemisphere_of` meets its contract. Assumes nothing.
use Prim.Native.Nat.{◌<◌}
use native.Mathlib.Omega.{arith}
use mathlib.Core.Path.{◌∙◌}
use lib.Dec.{lit≤}
use lib.ListN.{length}
use Rattle.layout.specs.declared.Edition.TheVariants.{One}
use Rattle.layout.specs.Page.{start_of}
use Rattle.layout.proofs.RecordLaws.{ends, begins}
use Rattle.recasting.proofs.PlaceLaws.{not_crossing, blank_place, crossed}
use Rattle.recasting.proofs.hemisphere_of.Goals.{Start}
use Rattle.recasting.proofs.hemisphere_of.Goals as goal

-- the record has column 12
there : (s : Start) → start_of 6 < length s.args.line.now
there s = omega (arith, s.requires, begins One 6 (lit≤ tt) (lit≤ tt))

pub full_text-digit-requires : goal.full_text-digit-requires
full_text-digit-requires c = omega (arith, ends One 6 (lit≤ tt))

pub first_byte-requires : goal.first_byte-requires
first_byte-requires c = omega (arith, begins One 6 (lit≤ tt) (lit≤ tt))

pub returns-then-not-is_crossing : goal.returns-then-not-is_crossing
returns-then-not-is_crossing c =
    c.first_byte.ensures ∙ not_crossing _ _ _ (there (goal.at.returns-then-not-is_crossing c).Start) _ c.is_crossing.ensures (c.if-not-is_crossing.true)

pub first_byte-requires-then-is_blank : goal.first_byte-requires-then-is_blank
first_byte-requires-then-is_blank c = omega (arith, begins One 6 (lit≤ tt) (lit≤ tt))

pub returns-then-is_blank : goal.returns-then-is_blank
returns-then-is_blank c =
    c.first_byte-then-is_blank.ensures ∙ blank_place _ _ _ _ c.is_crossing.ensures (c.if-not-is_crossing.false) _ c.full_text-digit.ensures.result_value _ c.is_blank.ensures (there (goal.at.returns-then-is_blank c).Start) c.if-is_blank.true

pub full_text-latitude-requires : goal.full_text-latitude-requires
full_text-latitude-requires c = omega (arith, ends One 7 (lit≤ tt))

pub full_text-longitude-requires : goal.full_text-longitude-requires
full_text-longitude-requires c = omega (arith, ends One 8 (lit≤ tt))

pub returns : goal.returns
returns c =
    crossed _ _ _ _ c.is_crossing.ensures (c.if-not-is_crossing.false) _ c.full_text-digit.ensures.result_value _ c.is_blank.ensures c.if-is_blank.false _ _ c.full_text-latitude.ensures.result_value c.full_text-longitude.ensures.result_value _ _ _
    c.number_of.ensures c.number_of-2.ensures c.number_of-3.ensures _ c.lowest_digit.ensures
