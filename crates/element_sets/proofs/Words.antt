-- The laws of `bits`: it is below the power of its bits, grows by its highest bit, bit i of it says whether element k + i passes the test, it has as
-- many ones as the list has elements, and the zeros below its lowest one lead to the first of the list. Assumes nothing.
use mathlib.Core.Path.{◌≡◌, refl, sym, ap, ap₂, ◌∙◌}
use mathlib.Core.List.{List, [], ◌∷◌}
use mathlib.Core.Bool.{Bool, true, false, cond}
use Prim.Native.Nat.{ℕ, zero, suc, ◌+◌, ◌*◌, ◌/◌, ◌%◌, ◌^◌, ◌<◌, ◌≤◌}
use native.Mathlib.Nat.{pow-suc, mul_assoc, add-suc, suc-add, add-zero, one-mul, div-one, le_of_suc-le-suc, lt_of_lt_of_le, div-eq_of_lt}
use native.Mathlib.Omega.{arith}
use native.Mathlib.Numerals.{one-add}
use lib.ListN.{length}
use lib.Dec.{eqb, lit<}
use lib.Bits.{bit_or, or_shifted_r}
use lib.Pow.{shr-shr, pow_mono}
use lib.Count.{ones, ones_step, count_trailing_zeros, under}
use Rattle.element_sets.specs.ElementSets.{bit, passing, bits, with_bit, has_bit}

bit_below : (b : Bool) → bit b < 2
bit_below true = omega arith
bit_below false = omega arith

pub half : (b : Bool) (w : ℕ) → (bit b + w * 2) / 2 ≡ w
half b w = omega (arith, bit_below b)

pub odd : (b : Bool) (w : ℕ) → (bit b + w * 2) % 2 ≡ bit b
odd b w = omega (arith, bit_below b)

pub word_below : (f : ℕ → Bool) (k n : ℕ) → bits f k n < 2 ^ n
unfolding bits
word_below f k zero = lit< tt
word_below f k (suc n) = rw pow-suc (omega (arith, word_below f (suc k) n, bit_below (f k)))

-- a word of one bit more
word_grows : (f : ℕ → Bool) (k n : ℕ) → bits f k (suc n) ≡ bits f k n + bit (f (k + n)) * 2 ^ n
unfolding bits
word_grows f k zero = rw (add-zero k) (omega arith)
word_grows f k (suc n) =
    let longer : bits f (suc k) (suc n) ≡ bits f (suc k) n + bit (f (k + suc n)) * 2 ^ n = rw (add-suc, ← suc-add) (word_grows f (suc k) n) in
    rw (pow-suc, ← mul_assoc) (omega (arith, longer))

-- it has the bit of the next element set where that passes the test, and is the same number where it does not
pub word_set : (f : ℕ → Bool) (k n : ℕ) → f (k + n) ≡ true → with_bit (bits f k n) n ≡ bits f k (suc n)
word_set f k n t =
    ap (bit_or (bits f k n)) (sym (one-mul (2 ^ n))) ∙ or_shifted_r 1 n (bits f k n) (word_below f k n) ∙ rw (word_grows, t) (omega arith)

pub word_not_set : (f : ℕ → Bool) (k n : ℕ) → f (k + n) ≡ false → bits f k n ≡ bits f k (suc n)
word_not_set f k n t = rw (word_grows, t) (omega arith)

-- bit i says whether element k + i passes the test
word_bit : (f : ℕ → Bool) (k n i : ℕ) → i < n → bits f k n / 2 ^ i % 2 ≡ bit (f (k + i))
unfolding bits
word_bit f k (suc n) zero h = rw (div-one, add-zero) (odd (f k) (bits f (suc k) n))
word_bit f k (suc n) (suc i) h =
    let w = bits f (suc k) n in
    let shifted : (bit (f k) + w * 2) / 2 ^ suc i ≡ w / 2 ^ i =
    sym (ap (λ (x : ℕ). (bit (f k) + w * 2) / 2 ^ x) (one-add i)) ∙ sym (shr-shr (bit (f k) + w * 2) 1 i) ∙ ap (λ (x : ℕ). x / 2 ^ i) (half (f k) w)
    in
    rw (shifted, add-suc, ← suc-add) (word_bit f (suc k) n i (le_of_suc-le-suc h))
word_bit f k zero i h = absurd (omega arith)

pub has_bit_lem : (f : ℕ → Bool) (k n i : ℕ) → i < n → has_bit (bits f k n) i ≡ f (k + i)
has_bit_lem f k n i h = rw (word_bit f k n i h) (by (f (k + i)))
  where
    by : (b : Bool) → eqb (bit b) 1 ≡ b
    by true = refl
    by false = refl

-- and no bit past its own is set
pub has_no_bit : (f : ℕ → Bool) (k n i : ℕ) → n ≤ i → has_bit (bits f k n) i ≡ false
has_no_bit f k n i h = rw (div-eq_of_lt (lt_of_lt_of_le (word_below f k n) (pow_mono h)))

-- as many ones as elements
pub word_ones : (f : ℕ → Bool) (k n : ℕ) → ones (bits f k n) ≡ length (passing f k n)
unfolding bits passing ones
word_ones f k zero = refl
word_ones f k (suc n) =
    ones_step (bit (f k) + bits f (suc k) n * 2)
    ∙ ap₂ (λ (x y : ℕ). x + ones y) (odd (f k) (bits f (suc k) n)) (half (f k) (bits f (suc k) n))
    ∙ by (word_ones f (suc k) n) (f k)
  where
    by : ones (bits f (suc k) n) ≡ length (passing f (suc k) n) → (b : Bool)
        → bit b + ones (bits f (suc k) n) ≡ length (cond b (k ∷ passing f (suc k) n) (passing f (suc k) n))
    by rest true = omega arith
    by rest false = omega arith

-- the zeros below the lowest one lead to the first of the list
pub word_first : (f : ℕ → Bool) (k n d x : ℕ) (xs : List ℕ) → n ≤ d → passing f k n ≡ x ∷ xs → k + count_trailing_zeros d (bits f k n) ≡ x
unfolding bits passing count_trailing_zeros
word_first f k zero d x xs l e = absurd (let z : ◌≡◌ {A = ℕ} 0 1 = cc in omega arith)
word_first f k (suc n) zero x xs l e = absurd (omega arith)
word_first f k (suc n) (suc d) x xs l e =
    rw (half (f k) (bits f (suc k) n), odd (f k) (bits f (suc k) n)) (by (word_first f (suc k) n d x xs (omega arith)) (f k) e)
  where
    by : (passing f (suc k) n ≡ x ∷ xs → suc k + count_trailing_zeros d (bits f (suc k) n) ≡ x) → (b : Bool)
        → cond b (k ∷ passing f (suc k) n) (passing f (suc k) n) ≡ x ∷ xs → k + under (bit b) (count_trailing_zeros d (bits f (suc k) n)) ≡ x
    by rest true q = rw (add-zero) (cc)
    by rest false q = rw (add-suc, ← suc-add) (rest q)

-- an empty list has a word of zeros, and another a word with a one
pub word_none : (f : ℕ → Bool) (k n : ℕ) → passing f k n ≡ [] → bits f k n ≡ 0
unfolding bits passing
word_none f k zero e = refl
word_none f k (suc n) e = by (word_none f (suc k) n) (f k) e
  where
    by : (passing f (suc k) n ≡ [] → bits f (suc k) n ≡ 0) → (b : Bool)
        → cond b (k ∷ passing f (suc k) n) (passing f (suc k) n) ≡ [] → bit b + bits f (suc k) n * 2 ≡ 0
    by rest true q = absurd (let z : ◌≡◌ {A = ℕ} 0 1 = cc in omega arith)
    by rest false q = omega (arith, rest q)

pub word_some : (f : ℕ → Bool) (k n x : ℕ) (xs : List ℕ) → passing f k n ≡ x ∷ xs → bits f k n ≡ 0 → ⊥
unfolding ones
word_some f k n x xs e z =
    let none : length (passing f k n) ≡ 0 = sym (word_ones f k n) ∙ ap ones z in
    let some : length (passing f k n) ≡ suc (length xs) = ap length e in
    omega arith
