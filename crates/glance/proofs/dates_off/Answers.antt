-- `glance::dates_off` meets its contract. Assumes nothing.
use native.Mathlib.Omega.{arith}
use lib.Dec.{lit≤}
use Rattle.columns.proofs.Ranges.{neither_of}
use Rattle.text.specs.Bytes.{value_from}
use Rattle.numerals.specs.Numerals.{spelled}
use Rattle.layout.specs.declared.Edition.TheVariants.{One}
use Rattle.layout.specs.Page.{element, page}
use Rattle.layout.proofs.RecordLaws.{ends}
use Rattle.glance.specs.Limits.{limit_of}
use Rattle.glance.specs.Sure.{All}
use Rattle.glance.proofs.dates_off.Goals as goal

pub off-requires : goal.off-requires
off-requires c = omega (arith, ends One 3 (lit≤ tt))

pub off-requires-2 : goal.off-requires-2
off-requires-2 c = omega (arith, ends One 4 (lit≤ tt))

pub off-requires-3 : goal.off-requires-3
off-requires-3 c = omega (arith, ends One 5 (lit≤ tt))

pub returns : goal.returns
unfolding All limit_of element page spelled value_from
returns c = λ z. let r = neither_of _ _ (neither_of _ _ c.off.ensures c.off-2.ensures) c.off-3.ensures z in (r.0.0, (r.0.1, (r.1, tt)))
