-- A test at each number below another, which the checker computes for a table. Assumes nothing.
use mathlib.Core.Path.{◌≡◌, ap, ◌∙◌}
use mathlib.Core.Bool.{Bool, true, ◌&&◌}
use mathlib.Core.Logic.{⊎_elim}
use Prim.Native.Nat.{ℕ, zero, suc, ◌<◌}
use native.Mathlib.Nat.{le_of_suc-le-suc, not-suc-le-zero, eq-or-lt_of_le}
use Rattle.text.proofs.Ways.{and_first, and_second}

-- the test passes at each number below n
abbrev pub every_below : ℕ → (ℕ → Bool) → Bool
every_below zero p = true
every_below (suc n) p = p n && every_below n p

pub passes_below : (n : ℕ) (p : ℕ → Bool) → every_below n p ≡ true → (k : ℕ) → k < n → p k ≡ true
passes_below zero p e k h = absurd (not-suc-le-zero h)
passes_below (suc n) p e k h =
    ⊎_elim (λ q. ap p q ∙ and_first (p n) _ e) (λ l. passes_below n p (and_second (p n) _ e) k l) (eq-or-lt_of_le (le_of_suc-le-suc h))
