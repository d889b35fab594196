-- `reading::item_at` meets its contract. Assumes nothing.
use Prim.Native.Nat.{ℕ, ◌+◌, ◌≤◌}
use Rattle.layout.proofs.Columns.{start_below}
use Rattle.layout.proofs.Elements.{next}
use Rattle.layout.proofs.Parts.{own_columns, own_width}
use Rattle.layout.specs.Page.{start_of, text_of}
use Rattle.reading.proofs.ReadingLaws.{from_three, from_two, item_place, item_temperature, leads_low, leads_sign}
use Rattle.reading.specs.Readings.{place_of, temperature}
use lib.Dec.{lit≤}
use mathlib.Core.Path.{◌∙◌, ◌≡◌, ap, refl, sym}
use native.Mathlib.Omega.{arith}
use Rattle.reading.proofs.item_at.Goals.{After-columns-first, After-width_of-2, After-columns-second, After-width_of-then-e-eq6, After-columns-third}
use Rattle.reading.proofs.item_at.Goals as goal

-- the texts of the element, of the next and of the one after that
first : (c : After-columns-first) → c.columns-first.result.now ≡ text_of c.args.e c.args.line.now
first c = own_columns _ _ _ _ _ c.requires.1 c.width_of.ensures c.columns-first.ensures.result_value

starts : (c : After-width_of-2) → c.args.at + c.width_of-2.result ≡ start_of (c.args.e + 1)
starts c = next _ _ _ c.requires.1 c.width_of-2.ensures

low : (c : After-width_of-2) → c.args.e ≤ 50
low c = leads_low _ c.requires.0

second : (c : After-columns-second) → c.columns-second.result.now ≡ text_of (c.args.e + 1) c.args.line.now
second c = own_columns _ _ _ _ _ (next _ _ _ c.requires.1 c.width_of-2.ensures) c.width_of-3.ensures c.columns-second.ensures.result_value

starts_last : (c : After-width_of-then-e-eq6) → c.args.at + c.width_of-2.result + c.width_of-then-e-eq6.result ≡ start_of 8
starts_last c = ap (λ (n : ℕ). n + c.width_of-then-e-eq6.result) ((next _ _ _ c.requires.1 c.width_of-2.ensures) ∙ ap (λ (e : ℕ). start_of (e + 1)) c.if-e-eq6.true) ∙ next (start_of 7) 7 _ refl c.width_of-then-e-eq6.ensures

third : (c : After-columns-third) → c.columns-third.result.now ≡ text_of 8 c.args.line.now
third c = own_columns _ _ _ _ _ (ap (λ (n : ℕ). n + c.width_of-then-e-eq6.result) ((next _ _ _ c.requires.1 c.width_of-2.ensures) ∙ ap (λ (e : ℕ). start_of (e + 1)) c.if-e-eq6.true) ∙ next (start_of 7) 7 _ refl c.width_of-then-e-eq6.ensures) c.width_of-then-e-eq6-2.ensures c.columns-third.ensures.result_value

pub overflow_add-next : goal.overflow_add-next
overflow_add-next c = let e = low c in omega (arith, starts c, start_below (c.args.e + 1) (omega arith))

pub overflow_add-e : goal.overflow_add-e
overflow_add-e c = let e = low c in omega arith

pub overflow_add-last : goal.overflow_add-last
overflow_add-last c = omega (arith, starts_last c, start_below 8 (lit≤ tt))

pub place_of-requires : goal.place_of-requires
place_of-requires c =
    (own_width _ _ _ (first (goal.at.place_of-requires c).After-columns-first), (own_width _ _ _ (second (goal.at.place_of-requires c).After-columns-second), own_width _ _ _ (third c)))

pub returns-then-e-eq6 : goal.returns-then-e-eq6
returns-then-e-eq6 c =
    let line = c.args.line.now in
    from_three (place_of _) c.place_of.ensures (first (goal.at.returns-then-e-eq6 c).After-columns-first ∙ ap (λ (e : ℕ). text_of e line) c.if-e-eq6.true)
    (second (goal.at.returns-then-e-eq6 c).After-columns-second ∙ ap (λ (e : ℕ). text_of (e + 1) line) c.if-e-eq6.true) (third (goal.at.returns-then-e-eq6 c).After-columns-third) ∙ sym (item_place _ _ _ c.if-e-eq6.true)

pub temperature_of-requires : goal.temperature_of-requires
temperature_of-requires c =
    (own_width _ _ _ (first (goal.at.temperature_of-requires c).After-columns-first), own_width _ _ _ (second (goal.at.temperature_of-requires c).After-columns-second))

pub returns : goal.returns
returns c =
    from_two temperature c.temperature_of.ensures (first (goal.at.returns c).After-columns-first) (second (goal.at.returns c).After-columns-second) ∙
    sym (item_temperature _ _ _ c.if-e-eq6.false (leads_sign _ c.requires.0 c.if-e-eq6.false))
