-- A number and a place of the table name one refusal, and no refusal has number 0. Assumes nothing.
use mathlib.Core.Path.{◌≡◌, refl, sym, ap, ◌∙◌}
use mathlib.Core.Bool.{cond}
use mathlib.Core.List.{List, [], ◌∷◌}
use Prim.Native.Nat.{ℕ, zero, suc, ◌<◌}
use native.Mathlib.Omega.{arith}
use lib.Dec.{eqb}
use Rattle.refusals.specs.declared.Refusal.{Refusal}
use Rattle.refusals.specs.declared.Refusal.TheVariants.{Length, Unprintable, Format, Version, EditionLength, Illegal, Broken, Unheld, Room}
use Rattle.refusals.specs.Refusals.{number_of, where_of}

-- every refusal, with the place that it is given
abbrev refusals : List (ℕ → Refusal)
refusals =
    (λ p. Length) ∷
    Unprintable ∷
    (λ p. Format) ∷
    (λ p. Version) ∷
    (λ p. EditionLength) ∷
    Illegal ∷
    Broken ∷
    (λ p. Unheld) ∷
    (λ p. Room) ∷
    []

-- the first of them that has the number
with_number : List (ℕ → Refusal) → ℕ → ℕ → Refusal
with_number [] n p = Length
with_number (r ∷ rs) n p = cond (eqb (number_of (r p)) n) (r p) (with_number rs n p)

abbrev by_number : ℕ → ℕ → Refusal
by_number = with_number refusals

back : (r : Refusal) → by_number (number_of r) (where_of r) ≡ r
unfolding with_number
back Length = refl
back (Unprintable c) = refl
back Format = refl
back Version = refl
back EditionLength = refl
back (Illegal e) = refl
back (Broken k) = refl
back Unheld = refl
back Room = refl

pub same_refusal : (r s : Refusal) → number_of r ≡ number_of s → where_of r ≡ where_of s → r ≡ s
same_refusal r s e f = sym (back r) ∙ ap (λ (n : ℕ). by_number n (where_of r)) e ∙ ap (by_number (number_of s)) f ∙ back s

-- the number 0 names none: it would name the first, whose number is 1
pub numbered : (r : Refusal) → 0 < number_of r
unfolding with_number
numbered r = by (number_of r) refl
  where
    by : (n : ℕ) → number_of r ≡ n → 0 < n
    by zero z = let first : Length ≡ r = sym (ap (λ (n : ℕ). by_number n (where_of r)) z) ∙ back r in omega (arith, ap number_of first)
    by (suc n) z = omega arith
