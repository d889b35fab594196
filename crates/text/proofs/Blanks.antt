-- A loop that goes back over the blanks at the end of a text: what stands up to the last byte that is not blank. Assumes nothing.
use mathlib.Core.Path.{◌≡◌, refl, ap, ◌∙◌}
use mathlib.Core.Bool.{Bool, true, false}
use mathlib.Core.List.{List, [], ◌∷◌}
use Prim.Native.Nat.{ℕ, zero, suc, ◌+◌, ◌-◌, ◌<◌, ◌≤◌}
use native.Mathlib.Nat.{le_of_suc-le-suc, not-suc-le-zero}
use native.Mathlib.Numerals.{add-one}
use native.Mathlib.Omega.{arith}
use lib.ListN.{length, get_or, take, drop}
use Rattle.text.specs.Bytes.{between, blank, to_last_non_blank}
use Rattle.text.proofs.Ranges.{least, greatest}
use Rattle.text.proofs.Every.{on, every_at}

pub only_blank : (b : ℕ) → between 32 32 b ≡ true → b ≡ 32
only_blank b e = omega (arith, least 32 32 b e, greatest 32 32 b e)

pub blank_byte : (b : ℕ) → b ≡ 32 → between 32 32 b ≡ true
blank_byte b e = rw e

-- a text with a byte that is not blank is not blank
not_all : (t : Bool) → (t ≡ true → ⊥) → t ≡ false
not_all true f = absurd (f refl)
not_all false f = refl

pub not_blank : (xs : List ℕ) (i : ℕ) → i < length xs → (get_or xs i 0 ≡ 32 → ⊥) → blank xs ≡ false
not_blank xs i h f = not_all (blank xs) (λ e. f (only_blank _ (every_at (between 32 32) xs e i h)))

pub all_blank : (xs : List ℕ) → blank xs ≡ true → [] ≡ to_last_non_blank xs
unfolding to_last_non_blank
all_blank [] e = refl
all_blank (x ∷ xs) e = rw e

-- the byte at i is not blank, and those after it are
pub last_at : (xs : List ℕ) (i : ℕ) → i < length xs → (get_or xs i 0 ≡ 32 → ⊥) → blank (drop (suc i) xs) ≡ true → take (suc i) xs ≡ to_last_non_blank xs
unfolding to_last_non_blank
last_at [] i h f e = absurd (not-suc-le-zero h)
last_at (x ∷ xs) zero h f e = rw (not_blank (x ∷ xs) zero h f) (ap (λ (r : List ℕ). x ∷ r) (all_blank xs e))
last_at (x ∷ xs) (suc i) h f e = rw (not_blank (x ∷ xs) (suc i) h f) (ap (λ (r : List ℕ). x ∷ r) (last_at xs i (le_of_suc-le-suc h) f e))

back : (n : ℕ) → 0 < n → suc (n - 1) ≡ n
back n h = omega arith

module _ (xs : List ℕ) (n : ℕ) (h : n ≤ length xs) (z : 0 < n) (e : blank (drop n xs) ≡ true) where
  -- the byte before the blanks is not blank, or one more of them
  pub stops : (get_or xs (n - 1) 0 ≡ 32 → ⊥) → take (n - 1 + 1) xs ≡ to_last_non_blank xs
  stops f = rw (add-one (n - 1)) (last_at xs (n - 1) (omega arith) f (rw (back n z) e))

  pub goes_back : get_or xs (n - 1) 0 ≡ 32 → blank (drop (n - 1) xs) ≡ true
  goes_back b = on (between 32 32) xs (n - 1) (omega arith) (blank_byte _ b) ∙ ap (λ (k : ℕ). blank (drop k xs)) (add-one (n - 1) ∙ back n z) ∙ e

-- all of them are blank
pub nothing_left : (xs : List ℕ) (n : ℕ) → n ≤ 0 → blank (drop n xs) ≡ true → [] ≡ to_last_non_blank xs
nothing_left xs zero h e = all_blank xs e
nothing_left xs (suc n) h e = absurd (not-suc-le-zero h)
