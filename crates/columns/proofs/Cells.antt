-- The cells of the page: their runs are runs of characters, and the cell of a column is that of its element. Assumes nothing.
use mathlib.Core.Path.{◌≡◌, refl, ap, ◌∙◌}
use mathlib.Core.Bool.{Bool, true, ◌&&◌}
use mathlib.Core.List.{List, [], ◌∷◌, ◌++◌}
use mathlib.Core.Logic.{⊎_elim}
use Prim.Native.Nat.{ℕ, zero, suc, ◌+◌, ◌<◌, ◌≤◌}
use native.Mathlib.Nat.{not-suc-le-zero, zero-add}
use native.Mathlib.Omega.{arith}
use borrow.Author.Tests.{eqb-true, leb-true}
use lib.Dec.{eqb, leb}
use lib.ListN.{length, get_or, take, replicate, length-replicate, get_or-replicate, get_or-append}
use lib.Seq.{get_or-append-add}
use Rattle.text.specs.Bytes.{between}
use Rattle.text.proofs.Ways.{and_first, and_second}
use Rattle.text.proofs.Among.{either_half}
use Rattle.text.proofs.Ranges.{greatest}
use Rattle.layout.specs.declared.Edition.{Edition}
use Rattle.layout.specs.declared.Edition.TheVariants.{One, Three, Four}
use Rattle.layout.specs.Page.{Element, page, none, elements, element, width_of, columns, start_of, legal_texts_in, legal_texts}
use Rattle.columns.specs.Tables.{allowed, Cell, cell, cell_of, cells_from, cells, cell_at, fits}

-- each run goes up, and to no more than 126
proper : Cell → Bool
proper c = (leb c.low c.high && leb c.high 126) && (leb c.also c.to && leb c.to 126)

all_proper : List Cell → Bool
all_proper [] = true
all_proper (c ∷ cs) = proper c && all_proper cs

proper_at : (cs : List Cell) → all_proper cs ≡ true → (k : ℕ) → proper (get_or cs k (cell 0 0 0 0)) ≡ true
unfolding all_proper proper
proper_at [] a zero = refl
proper_at [] a (suc k) = refl
proper_at (c ∷ cs) a zero = and_first _ _ a
proper_at (c ∷ cs) a (suc k) = proper_at cs (and_second (proper c) _ a) k

cells_proper : (ed : Edition) → all_proper (cells ed) ≡ true
unfolding all_proper proper cells cells_from cell_of page
cells_proper One = refl
cells_proper Three = refl
cells_proper Four = refl

module _ (ed : Edition) (k : ℕ) where
  cell_proper : proper (cell_at ed k) ≡ true
  unfolding cell_at
  cell_proper = proper_at (cells ed) (cells_proper ed) k

  pub first_run : (cell_at ed k).low ≤ (cell_at ed k).high
  unfolding proper
  first_run = leb-true _ _ (and_first _ _ (and_first _ _ cell_proper))

  pub second_run : (cell_at ed k).also ≤ (cell_at ed k).to
  unfolding proper
  second_run = leb-true _ _ (and_first _ _ (and_second (leb (cell_at ed k).low (cell_at ed k).high && leb (cell_at ed k).high 126) _ cell_proper))

  first_top : (cell_at ed k).high ≤ 126
  unfolding proper
  first_top = leb-true _ _ (and_second (leb (cell_at ed k).low (cell_at ed k).high) _ (and_first _ _ cell_proper))

  second_top : (cell_at ed k).to ≤ 126
  unfolding proper
  second_top =
      leb-true _ _ (and_second (leb (cell_at ed k).also (cell_at ed k).to) _ (and_second (leb (cell_at ed k).low (cell_at ed k).high && leb (cell_at ed k).high 126) _ cell_proper))

  -- so what a column holds is at most 126
  pub at_most_126 : (b : ℕ) → fits (cell_at ed k) b ≡ true → b ≤ 126
  unfolding allowed
  at_most_126 b h =
      ⊎_elim (λ e. omega (arith, eqb-true b 32 e))
      (λ e. ⊎_elim (λ x. omega (arith, first_top, greatest (cell_at ed k).low (cell_at ed k).high b x)) (λ x. omega (arith, second_top, greatest (cell_at ed k).also (cell_at ed k).to b x))
      (either_half (between (cell_at ed k).low (cell_at ed k).high b) _ e))
      (either_half (eqb b 32) _ h)

-- the columns of element e begin after those of the elements before it
flat : (ed : Edition) (es : List Element) (e p : ℕ) → p < (get_or es e none).width →
    get_or (cells_from ed es) (columns (take e es) + p) (cell 0 0 0 0) ≡ cell_of (get_or es e none).width (legal_texts_in ed (get_or es e none))
unfolding cells_from columns
flat ed [] zero p h = absurd (not-suc-le-zero h)
flat ed [] (suc e) p h = absurd (not-suc-le-zero h)
flat ed (x ∷ es) zero p h =
    ap (λ (n : ℕ). get_or (replicate x.width (cell_of x.width (legal_texts_in ed x)) ++ cells_from ed es) n (cell 0 0 0 0)) (zero-add p) ∙
    get_or-append (replicate x.width _) (cells_from ed es) (cell 0 0 0 0) p (rw length-replicate h) ∙ get_or-replicate x.width p _ (cell 0 0 0 0) h
flat ed (x ∷ es) (suc e) p h =
    let at : x.width + columns (take e es) + p ≡ length (replicate x.width (cell_of x.width (legal_texts_in ed x))) + (columns (take e es) + p) = rw length-replicate (omega arith) in
    ap (λ (n : ℕ). get_or (replicate x.width (cell_of x.width (legal_texts_in ed x)) ++ cells_from ed es) n (cell 0 0 0 0)) at ∙
    get_or-append-add (replicate x.width _) (cells_from ed es) (columns (take e es) + p) (cell 0 0 0 0) ∙ flat ed es e p h

pub cell_at_lem : (ed : Edition) (e p : ℕ) → p < width_of e → cell_at ed (start_of e + p) ≡ cell_of (width_of e) (legal_texts ed e)
unfolding cell_at cells start_of element cells_from
cell_at_lem ed e p h = flat ed elements e p h
