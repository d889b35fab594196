-- Where the elements of the page stand: one after the other, at most seven columns wide. Assumes nothing.
use mathlib.Core.Path.{◌≡◌, refl, sym}
use mathlib.Core.Bool.{Bool, true, ◌&&◌}
use mathlib.Core.List.{List, [], ◌∷◌}
use Prim.Native.Nat.{ℕ, zero, suc, ◌+◌, ◌≤◌, zero-le}
use native.Mathlib.Nat.{add-zero, zero-add, add_assoc, le_refl, not-suc-le-zero, le_of_suc-le-suc, eq-or-lt_of_le}
use native.Mathlib.Numerals.{add-one}
use native.Mathlib.Omega.{arith}
use mathlib.Core.Logic.{⊎_elim}
use borrow.Author.Tests.{leb-true}
use lib.Dec.{leb}
use lib.ListN.{get_or, take}
use Rattle.text.proofs.Below.{passes_below}
use Rattle.text.proofs.Ways.{and_first, and_second}
use Rattle.layout.specs.Editions.{length_of, last_of}
use Rattle.layout.specs.declared.Edition.{Edition}
use Rattle.layout.specs.declared.Edition.TheVariants.{One, Three, Four}
use Rattle.layout.specs.Page.{Element, page, none, elements, element, width_of, columns, start_of}

-- one element more
next : (l : List Element) (e : ℕ) → columns (take (suc e) l) ≡ columns (take e l) + (get_or l e none).width
unfolding columns
next [] zero = refl
next [] (suc e) = refl
next (x ∷ l) zero = rw (add-zero, zero-add)
next (x ∷ l) (suc e) = rw (next l e) (sym (add_assoc _ _ _))

pub start_next : (e : ℕ) → start_of (e + 1) ≡ start_of e + width_of e
unfolding start_of element
start_next e = rw add-one (next elements e)

le_add_right_of : {a b : ℕ} (c : ℕ) → a ≤ b → a ≤ b + c
le_add_right_of c h = omega arith

-- the columns before an element are no more than those before a later one
pub start_rises : (e n : ℕ) → e ≤ n → start_of e ≤ start_of n
start_rises e zero h = ⊎_elim (λ q. rw q (le_refl (start_of 0))) (λ l. absurd (not-suc-le-zero l)) (eq-or-lt_of_le h)
start_rises e (suc n) h =
    ⊎_elim
    (λ q. rw q (le_refl (start_of (suc n))))
    (λ l. rw (← add-one n, start_next n) (le_add_right_of (width_of n) (start_rises e n (le_of_suc-le-suc l))))
    (eq-or-lt_of_le h)

-- the widths fill each edition exactly
pub filled : (ed : Edition) → start_of (last_of ed + 1) ≡ length_of ed
unfolding start_of columns page
filled One = refl
filled Three = refl
filled Four = refl

pub start_below : (e : ℕ) → e ≤ 102 → start_of e ≤ 159
start_below e h = omega (arith, start_rises e 102 h, filled Four)

pub start_shared : (e : ℕ) → e ≤ 86 → start_of e ≤ 131
start_shared e h = omega (arith, start_rises e 86 h, filled One)

-- every element is at most seven columns wide, which antt computes over the page
abbrev narrow_all : List Element → Bool
narrow_all [] = true
narrow_all (x ∷ l) = leb x.width 7 && narrow_all l

narrow_at : (l : List Element) → narrow_all l ≡ true → (e : ℕ) → (get_or l e none).width ≤ 7
narrow_at [] t e = zero-le
narrow_at (x ∷ l) t zero = leb-true _ _ (and_first _ _ t)
narrow_at (x ∷ l) t (suc e) = narrow_at l (and_second (leb x.width 7) _ t) e

pub narrow : (e : ℕ) → width_of e ≤ 7
unfolding element page
narrow e = narrow_at elements refl e

-- and every one has a column
pub some_column : (e : ℕ) → 1 ≤ e → e ≤ 101 → 1 ≤ width_of e
unfolding element page
some_column zero l h = absurd (omega arith)
some_column (suc e) l h = leb-true _ _ (passes_below 101 (λ k. leb 1 (width_of (suc k))) refl e h)
