-- `reading::read_after` meets its contract: the loop stands at element e, and the entries below it are read. Assumes nothing.
use Prim.Native.Nat.{ℕ, ◌+◌, ◌-◌, ◌≤◌}
use Rattle.layout.proofs.Elements.{last_below, next, part, within}
use Rattle.layout.proofs.Parts.{own_width}
use Rattle.layout.specs.declared.Edition.{Edition}
use Rattle.layout.specs.Page.{columns, start_of, text_of, width_of, is_departure}
use Rattle.reading.proofs.ColumnLaws.{single, single_reads, single_width}
use Rattle.reading.proofs.EntryLaws.{as_known, holds_below, holds_end, holds_turn}
use Rattle.reading.proofs.ReadingLaws.{from_one, item_alone, lacking, Lead, lead_is, lower, shared}
use Rattle.reading.specs.Answers.{entries_from, read_after}
use Rattle.reading.specs.Readings.{departure, item_of, lead, plain, reading_of}
use lib.ListN.{drop, get_or, length, take}
use mathlib.Core.Bool.{cond, true}
use mathlib.Core.List.{List, [], ◌∷◌}
use mathlib.Core.Path.{◌∙◌, ◌≡◌, ap, refl, sym}
use native.Mathlib.Omega.{arith}
use Rattle.reading.proofs.read_after.Goals.{In-loop-e, Then-is_single, After-width_of, Then-lead-e, then-is_single, else-is_single+then-lead-e, else-is_single+else-lead-e+then-is_leading, else-is_single+else-lead-e+else-is_leading}
use Rattle.reading.proofs.read_after.Goals as goal

-- the element's columns, d of them, end within the record
ends : (c : In-loop-e) (d : ℕ) → d ≡ width_of c.loop-e.e → c.loop-e.at + d ≤ length c.args.line.now
ends c d wide = within _ _ _ c.loop-e.invariant.1.0 wide c.in-Ok.edition c.args.line.now _ c.last-last.ensures (c.requires c.in-Ok.edition c.in-Ok.is) (omega (arith, c.loop-e-test.true))

is_one : (c : Then-is_single) → single c.loop-e.e ≡ true
is_one c = sym c.is_single.ensures ∙ c.if-is_single.true

one_wide : (c : Then-is_single) → 1 ≡ width_of c.loop-e.e
one_wide c = sym (single_width _ (omega (arith, c.loop-e-test.true, c.loop-e.invariant.0)) (is_one c))

-- where it shares its reading with none lower
own_lead : (ed : Edition) (xs : List ℕ) (e l : ℕ) → l ≡ lead e → l ≡ e → item_of ed xs e ≡ reading_of ed xs e
own_lead ed xs e l p q = ap (item_of ed xs) (sym q ∙ p)

own_part : (c : After-width_of) → take (c.loop-e.at + c.width_of.result - c.loop-e.at) (drop c.loop-e.at c.args.line.now) ≡ text_of c.loop-e.e c.args.line.now
own_part c = part _ _ _ c.loop-e.invariant.1.0 c.width_of.ensures _

-- the element that it shares its reading with was passed
passed : (c : Then-lead-e) → (1 ≤ c.lead_of-lead.result) × (c.lead_of-lead.result ≤ c.loop-e.e)
passed c = let lead = lead_is _ c.loop-e.auto.e in (rw c.lead_of-lead.ensures lead.low, rw c.lead_of-lead.ensures lead.high)

pub loop-e-init : goal.loop-e-init
unfolding start_of columns entries_from
loop-e-init c = (omega (arith, c.last-last.ensures, last_below c.in-Ok.edition), (refl, refl))

pub bounds-line-at : goal.bounds-line-at
bounds-line-at c = omega (arith, ends (goal.at.bounds-line-at c).In-loop-e 1 (one_wide (goal.at.bounds-line-at c).Then-is_single))

pub overflow_add-at : goal.overflow_add-at
overflow_add-at c = omega (arith, ends (goal.at.overflow_add-at c).In-loop-e 1 (one_wide (goal.at.overflow_add-at c).Then-is_single))

pub overflow_add-end : goal.overflow_add-end
overflow_add-end c = omega (arith, ends (goal.at.overflow_add-end c).In-loop-e _ c.width_of.ensures)

pub overflow_sub-all : goal.overflow_sub-all
overflow_sub-all c = (passed c).0

pub slice_bounds-alone_of-end : goal.slice_bounds-alone_of-end
slice_bounds-alone_of-end c = ends (goal.at.slice_bounds-alone_of-end c).In-loop-e _ c.width_of.ensures

pub alone_of-requires : goal.alone_of-requires
alone_of-requires c = own_width _ _ _ (own_part (goal.at.alone_of-requires c).After-width_of)

pub loop-e-preserved : goal.loop-e-preserved
loop-e-preserved c =
    let inv = c.loop-e.invariant in
    let e = c.loop-e.e in
    let ed = c.in-Ok.edition in
    let line = c.args.line.now in
    let few : e ≤ 101 = omega (arith, inv.0, c.loop-e-test.true) in
    let within-line = ends (goal.at.loop-e-preserved c).In-loop-e in
    let turned = holds_turn c.args.answer (reading_of ed line) e c.loop-e.all inv.1.1 (e - 1) (omega (arith, c.loop-e.auto.e)) few in
    let one : single e ≡ true → 1 ≡ width_of e = λ s. sym (single_width e few s) in
    elim c.if-is_single.branch [
      | then-is_single w ↦
          let s : single e ≡ true = sym c.is_single.ensures ∙ w.if-is_single.true in
          (inv.0, (w.at-is ∙ next _ _ _ inv.1.0 (one s), w.all-is ∙ turned _ (w.column_of.ensures ∙ ap (λ (n : ℕ). plain 1 (get_or line n 0 ∷ [])) inv.1.0 ∙ single_reads e few s ed line (omega (arith, inv.1.0, within-line 1 (one s))))))
      | else-is_single+then-lead-e w ↦
          let lead : Lead e w.lead_of-lead.result = rw w.lead_of-lead.ensures (lead_is e c.loop-e.auto.e) in
          (inv.0, (w.at-is ∙ next _ _ _ inv.1.0 w.width_of.ensures, w.all-is ∙ turned _ (holds_below _ _ _ _ inv.1.1 _ w.lead_of-lead.result _ (omega (arith, lead.low)) (lower _ _ w.if-lead-e.true lead.high) (omega (arith, lead.high)) ∙ shared ed line e _ w.lead_of-lead.ensures)))
      | else-is_single+else-lead-e+then-is_leading w ↦
          (inv.0, (w.at-is ∙ next _ _ _ inv.1.0 w.width_of.ensures, w.all-is ∙ turned _ (w.item_at.ensures ∙ own_lead ed line e _ w.lead_of-lead.ensures w.if-lead-e.false)))
      | else-is_single+else-lead-e+else-is_leading w ↦
          let alone = item_alone ed line e (sym w.is_leading.ensures ∙ w.if-is_leading.false) in
          (inv.0, (w.at-is ∙ next _ _ _ inv.1.0 w.width_of.ensures, w.all-is ∙ turned _ (from_one (λ t. cond (is_departure e) (departure t) (plain e t)) w.alone_of.ensures (part _ _ _ inv.1.0 w.width_of.ensures _) ∙ sym alone ∙ own_lead ed line e _ w.lead_of-lead.ensures w.if-lead-e.false)))
    ]

pub returns-after-loop-e : goal.returns-after-loop-e
unfolding read_after
returns-after-loop-e c =
    holds_end _ _ _ _ c.loop-e.invariant.1.1 (λ i l h. lacking c.in-Ok.edition _ i (c.requires c.in-Ok.edition c.in-Ok.is) (omega (arith, c.loop-e-test.false, c.last-last.ensures))) ∙
    as_known _ _ c.in-Ok.is refl

pub returns-in_default : goal.returns-in_default
unfolding entries_from read_after
returns-in_default c = as_known _ _ c.in_default.is refl
