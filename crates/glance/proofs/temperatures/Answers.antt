-- `glance::temperatures` meets its contract. Assumes nothing.
use mathlib.Core.Path.{◌≡◌, ap, ◌∙◌, subst}
use mathlib.Core.List.{List}
use Prim.Native.Nat.{ℕ}
use native.Mathlib.Nat.{le_trans}
use native.Mathlib.Omega.{arith}
use lib.Dec.{lit≤}
use Rattle.layout.specs.declared.Edition.TheVariants.{One}
use Rattle.layout.specs.Page.{page, columns, start_of, first_byte}
use Rattle.layout.proofs.RecordLaws.{begins}
use Rattle.columns.proofs.Ranges.{neither_of}
use Rattle.glance.specs.Tests.{top_digit, half_digit}
use Rattle.glance.specs.Sure.{Temperature, Degrees}
use Rattle.glance.proofs.temperatures.Goals as goal

-- by the digits that column 1 takes
degrees : {xs : List ℕ} {e top half : ℕ} → top ≡ top_digit (first_byte 1 xs) → half ≡ half_digit (first_byte 1 xs) → Temperature xs e top half → Degrees xs e
degrees {xs} {e} {top} {half} t h d = subst (λ (n : ℕ). Temperature xs e (top_digit (first_byte 1 xs)) n) h (subst (λ (n : ℕ). Temperature xs e n half) t d)

pub first_byte-requires : goal.first_byte-requires
first_byte-requires c = omega (arith, begins One 1 (lit≤ tt) (lit≤ tt))

pub first_byte-requires-2 : goal.first_byte-requires-2
first_byte-requires-2 c = omega (arith, begins One 1 (lit≤ tt) (lit≤ tt))

pub temperature-requires : goal.temperature-requires
unfolding start_of columns page
temperature-requires c =
    le_trans (lit≤ tt) c.requires

pub temperature-requires-2 : goal.temperature-requires-2
unfolding start_of columns page
temperature-requires-2 c =
    le_trans (lit≤ tt) c.requires

pub temperature-requires-3 : goal.temperature-requires-3
unfolding start_of columns page
temperature-requires-3 c =
    le_trans (lit≤ tt) c.requires

pub temperature-requires-4 : goal.temperature-requires-4
unfolding start_of columns page
temperature-requires-4 c =
    le_trans (lit≤ tt) c.requires

pub returns : goal.returns
returns c = λ z.
    let e = c.top_digit-top.ensures ∙ ap top_digit c.first_byte.ensures in
    let f = c.half_digit-half.ensures ∙ ap half_digit c.first_byte-2.ensures in
    let r = neither_of _ _ (neither_of _ _ (neither_of _ _ c.temperature.ensures c.temperature-2.ensures) c.temperature-3.ensures) c.temperature-4.ensures z in
    ((degrees e f r.0.0.0, degrees e f r.0.0.1), (degrees e f r.0.1, degrees e f r.1))
