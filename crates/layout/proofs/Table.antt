-- The code's table of columns has what the page has, which antt computes for every element, and for the two places of the last row that are none. Assumes nothing.
use mathlib.Core.Path.{◌≡◌, refl}
use mathlib.Core.Bool.{true}
use Prim.Native.Nat.{ℕ, ◌≤◌, ◌/◌, ◌%◌}
use native.Mathlib.Omega.{arith}
use borrow.Author.Tests.{eqb-true}
use lib.Dec.{eqb}
use lib.ListN.{get_or}
use mathlib.Core.List.{List}
use Rattle.text.proofs.Below.{every_below, passes_below}
use Rattle.layout.specs.declared.widths.TheConstants.{COLUMNS}
use Rattle.layout.specs.Page.{page, element, width_of, columns, start_of}

module _ (row : List (ℕ × ℕ)) (other : ℕ × ℕ) (e : ℕ) (h : e ≤ 103) where
  same : (f g : ℕ → ℕ) → every_below 104 (λ k. eqb (f k) (g k)) ≡ true → f e ≡ g e
  same f g t = eqb-true _ _ (passes_below 104 (λ k. eqb (f k) (g k)) t e (omega arith))

  pub width_there : (get_or (get_or COLUMNS (e / 8) row) (e % 8) other).1 ≡ width_of e
  unfolding element page
  width_there = same (λ k. (get_or (get_or COLUMNS (k / 8) row) (k % 8) other).1) width_of refl

  pub start_there : (get_or (get_or COLUMNS (e / 8) row) (e % 8) other).0 ≡ start_of e
  unfolding start_of columns element page
  start_there = same (λ k. (get_or (get_or COLUMNS (k / 8) row) (k % 8) other).0) start_of refl
