-- `columns::shared` meets its contract. Assumes nothing.
use native.Mathlib.Omega.{arith}
use mathlib.Core.Path.{refl}
use Rattle.layout.specs.Page.{page}
use Rattle.columns.specs.Tables.{cells, cells_from, cell_of, bonds, bonds_from, inside, after}
use Rattle.columns.proofs.Ranges.{in_all, neither_of, onward}
use Rattle.columns.proofs.shared.Goals as goal

pub returns : goal.returns
unfolding cells cells_from cell_of bonds bonds_from inside after page
returns c = λ z ed.
    let r = neither_of _ _ (neither_of _ _ (neither_of _ _ (λ e. in_all (c.part.ensures e) refl refl refl) (λ e. in_all (c.part-2.ensures e) refl refl refl)) (λ e. in_all (c.part-3.ensures e) refl refl refl)) (λ e. in_all (c.part-4.ensures e) refl refl refl) z in
    (onward 48 48 (onward 32 32 (r.0.0.0 ed) (r.0.0.1 ed) (omega arith)) (r.0.1 ed) (omega arith), r.1 ed)
