-- The laws of `passing`: the list has an element exactly where it passes the test, rises, and is the list of the first of them and then that of the
-- others; tests that agree give the same list and the same word. Assumes nothing.
use mathlib.Core.Path.{◌≡◌, refl, sym, ap, ap₂, ◌∙◌}
use mathlib.Core.List.{List, [], ◌∷◌, ◌++◌}
use mathlib.Core.Logic.{◌⊎◌, inl, inr}
use mathlib.Core.Bool.{Bool, true, false, cond}
use Prim.Native.Nat.{ℕ, zero, suc, ◌+◌, ◌*◌, ◌<◌, ◌≤◌}
use native.Mathlib.Nat.{add-suc, suc-add, add-zero, zero-add, le_of_suc-le-suc}
use native.Mathlib.Omega.{arith}
use borrow.Author.Tests.{eq-eqb, ne_eqb, lt-ltb}
use Rattle.element_sets.specs.ElementSets.{bit, passing, bits, rises_above}
use Rattle.text.specs.LegalTexts.{member}

-- of the numbers that are not among the n from k on none is listed
pub none_outside : (f : ℕ → Bool) (e k n : ℕ) → (e < k) ⊎ (k + n ≤ e) → member e (passing f k n) ≡ false
unfolding member passing
none_outside f e k zero o = refl
none_outside f e k (suc n) o = by (none_outside f e (suc k) n (further o)) (f k)
  where
    further : (e < k) ⊎ (k + suc n ≤ e) → (e < suc k) ⊎ (suc k + n ≤ e)
    further (inl h) = inl (omega arith)
    further (inr h) = inr (omega arith)

    other : (e < k) ⊎ (k + suc n ≤ e) → e ≡ k → ⊥
    other (inl h) q = omega arith
    other (inr h) q = omega arith

    by : member e (passing f (suc k) n) ≡ false → (b : Bool) → member e (cond b (k ∷ passing f (suc k) n) (passing f (suc k) n)) ≡ false
    by rest true = rw (ne_eqb e k (other o)) rest
    by rest false = rest

-- of the others those are listed that pass the test
pub listed : (f : ℕ → Bool) (k n i : ℕ) → i < n → member (k + i) (passing f k n) ≡ f (k + i)
unfolding member passing
listed f k (suc n) zero h = rw (add-zero) (by (f k) refl)
  where
    by : (b : Bool) → f k ≡ b → member k (cond b (k ∷ passing f (suc k) n) (passing f (suc k) n)) ≡ f k
    by true e = rw (eq-eqb k k refl) (sym e)
    by false e = none_outside f k (suc k) n (inl (omega arith)) ∙ sym e
listed f k (suc n) (suc i) h = rw (add-suc, ← suc-add) (by (listed f (suc k) n i (le_of_suc-le-suc h)) (f k))
  where
    by : member (suc k + i) (passing f (suc k) n) ≡ f (suc k + i) → (b : Bool)
        → member (suc k + i) (cond b (k ∷ passing f (suc k) n) (passing f (suc k) n)) ≡ f (suc k + i)
    by rest true = rw (ne_eqb (suc k + i) k (λ (q : suc k + i ≡ k). omega arith)) rest
    by rest false = rest
listed f k zero i h = absurd (omega arith)

-- the first m of them, and then the others
pub elements_split : (f : ℕ → Bool) (k m n : ℕ) → passing f k (m + n) ≡ passing f k m ++ passing f (k + m) n
unfolding passing
elements_split f k zero n = rw (zero-add, add-zero)
elements_split f k (suc m) n = rw (suc-add, add-suc, ← suc-add) (by (elements_split f (suc k) m n) (f k))
  where
    by : passing f (suc k) (m + n) ≡ passing f (suc k) m ++ passing f (suc k + m) n → (b : Bool)
        → cond b (k ∷ passing f (suc k) (m + n)) (passing f (suc k) (m + n))
        ≡ cond b (k ∷ passing f (suc k) m) (passing f (suc k) m) ++ passing f (suc k + m) n
    by rest true = ap (λ (l : List ℕ). k ∷ l) rest
    by rest false = rest

pub elements_rise : (f : ℕ → Bool) (j k n : ℕ) → j < k → rises_above j (passing f k n) ≡ true
unfolding passing rises_above
elements_rise f j k zero h = refl
elements_rise f j k (suc n) h = by (elements_rise f k (suc k) n (omega arith)) (elements_rise f j (suc k) n (omega arith)) (f k)
  where
    by : rises_above k (passing f (suc k) n) ≡ true → rises_above j (passing f (suc k) n) ≡ true → (b : Bool)
        → rises_above j (cond b (k ∷ passing f (suc k) n) (passing f (suc k) n)) ≡ true
    by here there true = rw (lt-ltb j k h) here
    by here there false = there

-- two tests that agree on the n elements from k on
abbrev pub Agree : (ℕ → Bool) → (ℕ → Bool) → ℕ → ℕ → Type 0
Agree f g k n = (e : ℕ) → k ≤ e → e < k + n → f e ≡ g e

pub same_word : (f g : ℕ → Bool) (k n : ℕ) → Agree f g k n → bits f k n ≡ bits g k n
unfolding bits
same_word f g k zero a = refl
same_word f g k (suc n) a =
    ap₂ (λ (b : Bool) (w : ℕ). bit b + w * 2) (a k (omega arith) (omega arith))
    (same_word f g (suc k) n (λ e h l. a e (omega arith) (omega arith)))

pub same_elements : (f g : ℕ → Bool) (k n : ℕ) → Agree f g k n → passing f k n ≡ passing g k n
unfolding passing
same_elements f g k zero a = refl
same_elements f g k (suc n) a =
    ap₂ (λ (b : Bool) (xs : List ℕ). cond b (k ∷ xs) xs) (a k (omega arith) (omega arith))
    (same_elements f g (suc k) n (λ e h l. a e (omega arith) (omega arith)))

-- a test that nothing passes
pub no_word : (k n : ℕ) → bits (λ e. false) k n ≡ 0
unfolding bits
no_word k zero = refl
no_word k (suc n) = omega (arith, no_word (suc k) n)

pub no_elements_lem : (k n : ℕ) → passing (λ e. false) k n ≡ []
unfolding passing
no_elements_lem k zero = refl
no_elements_lem k (suc n) = no_elements_lem (suc k) n
