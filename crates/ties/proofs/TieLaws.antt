-- A tie by its number, and the lowest one that is broken. Assumes nothing.
use mathlib.Core.Path.{◌≡◌, refl, sym, ◌∙◌}
use mathlib.Core.Bool.{true, false, true≢false}
use mathlib.Core.List.{List, ◌∷◌}
use Prim.Native.Nat.{ℕ, ◌≤◌, ◌<◌}
use borrow.Author.Tests.{leb-true, leb-false}
use lib.Dec.{leb}
use lib.ListN.{length, get_or-eq_default}
use Rattle.text.proofs.First.{Found, past_zero, found, same_found}
use Rattle.text.proofs.Ways.{decide}
use Rattle.ties.specs.Ties.{ties, tie, first_broken}
use Rattle.layout.specs.declared.Edition.{Edition}

module _ (ed : Edition) (xs : List ℕ) where
  pub tie_zero : tie ed xs 0 ≡ true
  unfolding tie
  tie_zero = refl

  pub tie_none : (k : ℕ) → length (ties ed xs) < k → tie ed xs k ≡ true
  unfolding tie
  tie_none k h = get_or-eq_default (true ∷ ties ed xs) true h

  -- a tie that is broken is one of those that there are
  pub broken_past_zero : (k : ℕ) → tie ed xs k ≡ false → 1 ≤ k
  broken_past_zero = past_zero (tie ed xs) tie_zero

  pub broken_listed : (k : ℕ) → tie ed xs k ≡ false → k ≤ length (ties ed xs)
  broken_listed k x = decide (leb k (length (ties ed xs))) (leb-true k _) (λ t. absurd (true≢false (sym (tie_none k (leb-false k _ t)) ∙ x)))

  -- the lowest broken tie, with no word of how many there are: none, or one that is broken where each lower one holds
  pub lowest_broken : Found (tie ed xs) (first_broken ed xs)
  unfolding first_broken
  lowest_broken = found (tie ed xs) tie_zero (length (ties ed xs)) tie_none

  pub is_lowest : (k : ℕ) → Found (tie ed xs) k → first_broken ed xs ≡ k
  is_lowest k = same_found (tie ed xs) _ k lowest_broken
