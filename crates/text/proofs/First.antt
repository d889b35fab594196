-- A loop that looks for the lowest place at which a test fails, from place 1 on; and what the place that it finds says of the test at every place.
-- Assumes nothing.
use mathlib.Core.Path.{◌≡◌, refl, sym, ap, ◌∙◌}
use mathlib.Core.Bool.{Bool, true, false, cond, true≢false}
use mathlib.Core.Logic.{⊎_elim}
use Prim.Native.Nat.{ℕ, zero, suc, ◌+◌, ◌-◌, ◌<◌, ◌≤◌}
use native.Mathlib.Nat.{add-suc, suc-add, le_refl, eq-or-lt_of_le}
use native.Mathlib.Numerals.{add-one}
use native.Mathlib.Omega.{arith}
use borrow.Author.Tests.{leb-true, leb-false}
use lib.Dec.{leb}
use Rattle.std.proofs.Common.{Some, None}
use Rattle.text.specs.First.{first_from, first_of, nonzero}
use Rattle.text.proofs.Ways.{decide}

left : (n k : ℕ) → k ≤ n → n + 1 - k ≡ suc (n + 1 - (k + 1))
left n k h = omega arith

none_left : (n k : ℕ) → n < k → n + 1 - k ≡ 0
none_left n k h = omega arith

module _ (p : ℕ → Bool) (n : ℕ) where
  -- where a loop begins, one place more, a place that fails, and the end
  pub begin : first_of n p ≡ first_from p 1 (n + 1 - 1)
  begin = ap (first_from p 1) (omega arith)

  module _ (k : ℕ) where
    pub on : k ≤ n → p k ≡ true → first_from p k (n + 1 - k) ≡ first_from p (k + 1) (n + 1 - (k + 1))
    unfolding first_from
    on h t = rw (left n k h, t) (ap (λ (j : ℕ). first_from p j (n + 1 - (k + 1))) (sym (add-one k)))

    pub off : k ≤ n → p k ≡ false → first_from p k (n + 1 - k) ≡ k
    unfolding first_from
    off h t = rw (left n k h, t)

    pub end : n < k → first_from p k (n + 1 - k) ≡ 0
    unfolding first_from
    end h = rw (none_left n k h)

-- places at which the test passes are passed over
pub passed : (p : ℕ → Bool) (k m n : ℕ) → ((j : ℕ) → k ≤ j → j < k + m → p j ≡ true) → first_from p k (m + n) ≡ first_from p (k + m) n
unfolding first_from
passed p k zero n f =
    let a : 0 + n ≡ n = omega arith in
    let b : k + 0 ≡ k = omega arith in
    rw (a, b) refl
passed p k (suc m) n f =
    let a : suc m + n ≡ suc (m + n) = omega arith in
    let b : k + suc m ≡ suc k + m = omega arith in
    rw (a, b, f k (le_refl k) (omega arith)) (passed p (suc k) m n (λ j h l. f j (omega arith) (omega arith)))

-- tests that answer the same at every place find the same place
pub same_first : (p q : ℕ → Bool) → ((j : ℕ) → p j ≡ q j) → (k n : ℕ) → first_from p k n ≡ first_from q k n
unfolding first_from
same_first p q f k zero = refl
same_first p q f k (suc n) = rw (f k, same_first p q f (suc k) n)

-- What a look at the n places from k on has shown: the test passes at each, or it fails at q and passes at each that is lower.
pub data Looked (p : ℕ → Bool) (k n : ℕ) : ℕ → Type 0 where
  nowhere : ((j : ℕ) → k ≤ j → j < k + n → p j ≡ true) → Looked p k n 0
  lowest : (q : ℕ) → k ≤ q → q < k + n → p q ≡ false → ((j : ℕ) → k ≤ j → j < q → p j ≡ true) → Looked p k n q

-- what holds at k and at each place from the next one on holds from k on
from_here : (p : ℕ → Bool) (k l : ℕ) → p k ≡ true → ((j : ℕ) → suc k ≤ j → j < l → p j ≡ true) → (j : ℕ) → k ≤ j → j < l → p j ≡ true
from_here p k l t f j h b = ⊎_elim (λ e. ap p (sym e) ∙ t) (λ g. f j g b) (eq-or-lt_of_le h)

step : (p : ℕ → Bool) (k n m : ℕ) (t : Bool) → p k ≡ t → Looked p (suc k) n m → Looked p k (suc n) (cond t m k)
step p k n m true e (nowhere f) = nowhere (from_here p k (k + suc n) e (λ j h l. f j h (rw (suc-add, ← add-suc) l)))
step p k n m true e (lowest q a b x f) = lowest q (omega arith) (rw (add-suc, ← suc-add) b) x (from_here p k q e f)
step p k n m false e s = lowest k (le_refl k) (rw add-suc (omega arith)) e (λ j h l. absurd (omega arith))

pub looked : (p : ℕ → Bool) (k n : ℕ) → Looked p k n (first_from p k n)
unfolding first_from
looked p k zero = nowhere (λ j h l. absurd (omega arith))
looked p k (suc n) = step p k n (first_from p (suc k) n) (p k) refl (looked p (suc k) n)

-- Of a test that passes at 0 and past the last place no bound is left to say: it passes everywhere, or it fails at q and passes at each lower place.
pub data Found (p : ℕ → Bool) : ℕ → Type 0 where
  at_none : ((j : ℕ) → p j ≡ true) → Found p 0
  at_lowest : (q : ℕ) → 1 ≤ q → p q ≡ false → ((j : ℕ) → j < q → p j ≡ true) → Found p q

module _ (p : ℕ → Bool) (before : p 0 ≡ true) where
  pub past_zero : (q : ℕ) → p q ≡ false → 1 ≤ q
  past_zero zero x = absurd (true≢false (sym before ∙ x))
  past_zero (suc q) x = omega arith

  from_one : (l : ℕ) → ((j : ℕ) → 1 ≤ j → j < l → p j ≡ true) → (j : ℕ) → j < l → p j ≡ true
  from_one l f zero h = before
  from_one l f (suc j) h = f (suc j) (omega arith) h

  pub found : (n : ℕ) → ((j : ℕ) → n < j → p j ≡ true) → Found p (first_of n p)
  found n after = by (first_of n p) (looked p 1 n)
    where
      by : (q : ℕ) → Looked p 1 n q → Found p q
      by q (nowhere f) = at_none (λ j. decide (leb j n) (λ t. let h = leb-true j n t in from_one (1 + n) f j (omega arith)) (λ t. after j (leb-false j n t)))
      by q (lowest r a b x f) = at_lowest r a x (from_one r f)

-- a test fails first at one place
pub same_found : (p : ℕ → Bool) (q r : ℕ) → Found p q → Found p r → q ≡ r
same_found p q r (at_none f) (at_none g) = refl
same_found p q r (at_none f) (at_lowest s a x g) = absurd (true≢false (sym (f s) ∙ x))
same_found p q r (at_lowest s a x f) (at_none g) = absurd (true≢false (sym (g s) ∙ x))
same_found p q r (at_lowest s a x f) (at_lowest t b y g) =
    decide (leb s t)
    (λ d. decide (leb t s) (λ e. omega (arith, leb-true s t d, leb-true t s e)) (λ e. absurd (true≢false (sym (g s (leb-false t s e)) ∙ x))))
    (λ d. absurd (true≢false (sym (f t (leb-false s t d)) ∙ y)))

-- none is found where the test passes at each place
pub none_of_all : (p : ℕ → Bool) (n : ℕ) → ((j : ℕ) → 1 ≤ j → j < 1 + n → p j ≡ true) → first_of n p ≡ 0
none_of_all p n f = none (first_of n p) (looked p 1 n)
  where
    none : (q : ℕ) → Looked p 1 n q → q ≡ 0
    none q (nowhere g) = refl
    none q (lowest r a b x g) = absurd (true≢false (sym (f r a b) ∙ x))

-- and where none is found the test passes at each place
pub all_of_none : (p : ℕ → Bool) (k n : ℕ) → 1 ≤ k → first_from p k n ≡ 0 → (j : ℕ) → k ≤ j → j < k + n → p j ≡ true
all_of_none p k n l z j = all (first_from p k n) z (looked p k n)
  where
    all : (q : ℕ) → q ≡ 0 → Looked p k n q → k ≤ j → j < k + n → p j ≡ true
    all q e (nowhere f) = f j
    all q e (lowest r a b x f) = absurd (omega arith)

-- what a place answered with nonzero says: the place itself, which is not 0, or that it is 0
pub nonzero_is : (n m : ℕ) → nonzero n ≡ Some m → n ≡ m
nonzero_is zero m e = cc
nonzero_is (suc n) m e = cc

pub nonzero_some : (n m : ℕ) → nonzero n ≡ Some m → 0 < m
nonzero_some zero m e = let z : ◌≡◌ {A = ℕ} 0 1 = cc in absurd (omega arith)
nonzero_some (suc n) m e = let f : suc n ≡ m = cc in omega arith

pub nonzero_none : (n : ℕ) → nonzero n ≡ None → n ≡ 0
nonzero_none zero e = refl
nonzero_none (suc n) e = let z : ◌≡◌ {A = ℕ} 0 1 = cc in absurd (omega arith)

-- and back
pub none_nonzero : (n : ℕ) → n ≡ 0 → None ≡ nonzero n
none_nonzero n e = rw e

pub some_nonzero : (n : ℕ) → 0 < n → Some n ≡ nonzero n
some_nonzero zero h = absurd (omega arith)
some_nonzero (suc n) h = refl
