-- `columns::four::own` meets its contract. Assumes nothing.
use mathlib.Core.Path.{refl}
use native.Mathlib.Omega.{arith}
use Rattle.layout.specs.Page.{page}
use Rattle.layout.specs.declared.Edition.TheVariants.{Four}
use Rattle.columns.specs.Tables.{cells, cells_from, cell_of, cell_at, bonds, bonds_from, bond_at, inside, after}
use Rattle.columns.proofs.Ranges.{neither_of, onward, to_last}
use Rattle.columns.proofs.four.own.Goals as goal

pub returns : goal.returns
unfolding cells cells_from cell_of bonds bonds_from inside after page cell_at bond_at
returns c = λ z.
    let r = neither_of _ _ (neither_of _ _ (neither_of _ _ (neither_of _ _ (neither_of _ _ (neither_of _ _ (λ e. c.part.ensures e Four refl) (λ e. c.part-2.ensures e Four refl)) (λ e. c.part-3.ensures e Four refl)) (λ e. c.part-4.ensures e Four refl)) (λ e. c.part-5.ensures e Four refl)) (λ e. c.part-6.ensures e Four refl)) (λ e. e) z in
    let last = to_last Four _ 142 158 _ (omega arith) r.0.1 (c.outside.ensures (omega arith) (omega arith)) refl r.1 in
    (r.0.0.0.0.0.0, (r.0.0.0.0.0.1, (r.0.0.0.0.1, onward 144 142 (onward 128 128 r.0.0.0.1 r.0.0.1 (omega arith)) last (omega arith))))
