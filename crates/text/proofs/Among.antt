-- A number that is one of four, or none of them: what holds of each of the four holds of it, and what it is not. Assumes nothing.
use mathlib.Core.Path.{◌≡◌, refl}
use mathlib.Core.Logic.{◌⊎◌, inl, inr, ⊎_elim}
use mathlib.Core.Bool.{Bool, true, false, ◌||◌, true≢false}
use Prim.Native.Nat.{ℕ}
use borrow.Author.Tests.{eqb-true}
use lib.Dec.{eqb}
use Rattle.text.specs.LegalTexts.{among}

-- which half of a test passed, and that both failed
pub either_half : (x y : Bool) → (x || y) ≡ true → (x ≡ true) ⊎ (y ≡ true)
either_half true y h = inl refl
either_half false y h = inr h

pub neither_first : (x y : Bool) → (x || y) ≡ false → x ≡ false
neither_first true y h = absurd (true≢false h)
neither_first false y h = refl

pub neither_second : (x y : Bool) → (x || y) ≡ false → y ≡ false
neither_second true y h = absurd (true≢false h)
neither_second false y h = h

-- what holds at a number holds at one that is equal to it
pub at_number : (P : ℕ → Type 0) (n k : ℕ) → eqb n k ≡ true → P k → P n
at_number P n k e p = rw (eqb-true n k e) p

-- what holds at each of four numbers holds at one of the four
pub among_cases : (P : ℕ → Type 0) (a b c d n : ℕ) → P a → P b → P c → P d → among a b c d n ≡ true → P n
among_cases P a b c d n p q r s h =
    ⊎_elim
    (λ x. ⊎_elim (λ y. ⊎_elim (λ z. at_number P n a z p) (λ z. at_number P n b z q) (either_half _ _ y)) (λ y. at_number P n c y r) (either_half _ _ x))
    (λ x. at_number P n d x s)
    (either_half _ _ h)

-- a number that is none of the four is not any one of them
module _ (a b c d n : ℕ) (h : among a b c d n ≡ false) where
  pub not_first : eqb n a ≡ false
  not_first = neither_first _ _ (neither_first _ _ (neither_first _ _ h))

  pub not_second : eqb n b ≡ false
  not_second = neither_second (eqb n a) _ (neither_first _ _ (neither_first _ _ h))

  pub not_third : eqb n c ≡ false
  not_third = neither_second (eqb n a || eqb n b) _ (neither_first _ _ h)

  pub not_fourth : eqb n d ≡ false
  not_fourth = neither_second (eqb n a || eqb n b || eqb n c) _ h
