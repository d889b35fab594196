-- The elements of a word, taken from the lowest on: those of a word that is not 0 are its lowest and then those of the word without its lowest bit.
-- A loop over the words of a set cites these. Assumes nothing.
use mathlib.Core.Path.{◌≡◌, refl, sym, ap, ap₂, ◌∙◌}
use mathlib.Core.List.{List, [], ◌∷◌, ◌++◌}
use mathlib.Core.Logic.{◌⊎◌, inl, inr}
use mathlib.Core.Bool.{Bool, cond}
use Prim.Native.Nat.{ℕ, zero, suc, ◌+◌, ◌-◌, ◌*◌, ◌/◌, ◌%◌, ◌^◌, ◌<◌, ◌≤◌}
use native.Mathlib.Nat.{add-suc, suc-add, add-zero, zero-add, div-one, mod-one, pow-suc, div-lt_iff_lt-mul}
use native.Mathlib.Numerals.{add-one, one-add}
use native.Mathlib.Omega.{arith}
use lib.Dec.{eqb, lit<}
use lib.Bits.{bit_and, and_step, and_self}
use lib.Pow.{shr-shr, field, mod-mod-pow}
use lib.Count.{count_trailing_zeros, under}
use Rattle.element_sets.specs.declared.ElementSet.{ElementSet}
use Rattle.element_sets.specs.ElementSets.{passing, has_bit, has_element}
use Rattle.element_sets.specs.Loops.{elements_in}
use Rattle.element_sets.proofs.Listed.{elements_split}
use Rattle.element_sets.proofs.Ways.{has_low, has_high}

-- a word is even or odd
parity : (w : ℕ) → (w % 2 ≡ 0) ⊎ (w % 2 ≡ 1)
parity w = by (w % 2) refl
  where
    by : (p : ℕ) → w % 2 ≡ p → (w % 2 ≡ 0) ⊎ (w % 2 ≡ 1)
    by zero e = inl e
    by (suc zero) e = inr e
    by (suc (suc p)) e = absurd (omega arith)

-- a word of zeros has none
pub elements_of_none : (k n : ℕ) → elements_in k n 0 ≡ []
unfolding elements_in
elements_of_none k zero = refl
elements_of_none k (suc n) = elements_of_none (suc k) n

-- an odd word loses its bit 0, and an even one that of its half
odd_without : (w : ℕ) → w % 2 ≡ 1 → bit_and w (w - 1) ≡ w / 2 * 2
odd_without w o =
    let half : (w - 1) / 2 ≡ w / 2 = omega arith in
    let even : (w - 1) % 2 ≡ 0 = omega arith in
    and_step w (w - 1) ∙ rw (half, even, o, and_self (w / 2)) (omega arith)

even_without : (w : ℕ) → w % 2 ≡ 0 → (w ≡ 0 → ⊥) → bit_and w (w - 1) ≡ bit_and (w / 2) (w / 2 - 1) * 2
even_without w o h =
    let half : (w - 1) / 2 ≡ w / 2 - 1 = omega arith in
    and_step w (w - 1) ∙ rw (half, o) (omega arith)

-- the elements of a word with a zero below it
doubled : (k n w : ℕ) → elements_in k (suc n) (w * 2) ≡ elements_in (suc k) n w
unfolding elements_in
doubled k n w =
    let half : w * 2 / 2 ≡ w = omega arith in
    let even : w * 2 % 2 ≡ 0 = omega arith in
    rw (even, half)

-- those of a word that is not 0: the zeros below its lowest one lead to the first, and the word without that one has the others
pub lowest_first : (d k n w : ℕ) → n ≤ d → w < 2 ^ n → (w ≡ 0 → ⊥) → elements_in k n w ≡ (k + count_trailing_zeros d w) ∷ elements_in k n (bit_and w (w - 1))
unfolding elements_in count_trailing_zeros
lowest_first d k zero w l b h = absurd (h (omega arith))
lowest_first zero k (suc n) w l b h = absurd (omega arith)
lowest_first (suc d) k (suc n) w l b h = by (lowest_first d (suc k) n (w / 2) (omega arith) ((div-lt_iff_lt-mul (lit< tt)).1 (rw pow-suc at b))) (parity w)
  where
    by : ((w / 2 ≡ 0 → ⊥) → elements_in (suc k) n (w / 2) ≡ (suc k + count_trailing_zeros d (w / 2)) ∷ elements_in (suc k) n (bit_and (w / 2) (w / 2 - 1))) →
        (w % 2 ≡ 0) ⊎ (w % 2 ≡ 1) → elements_in k (suc n) w ≡ (k + under (w % 2) (count_trailing_zeros d (w / 2))) ∷ elements_in k (suc n) (bit_and w (w - 1))
    by rest (inr o) = rw (o, odd_without w o, add-zero) (ap (λ (xs : List ℕ). k ∷ xs) (sym (doubled k n (w / 2))))
    by rest (inl o) =
        rw (o, even_without w o h, add-suc, ← suc-add) (rest (λ z. h (omega arith)) ∙
        ap (λ (xs : List ℕ). (suc k + count_trailing_zeros d (w / 2)) ∷ xs) (sym (doubled k n (bit_and (w / 2) (w / 2 - 1)))))

-- bit i + 1 of a word is bit i of its half
bit_of_half : (w i : ℕ) → has_bit w (suc i) ≡ has_bit (w / 2) i
bit_of_half w i = ap (λ (x : ℕ). eqb (x % 2) 1) (sym (shr-shr w 1 i ∙ ap (λ (x : ℕ). w / 2 ^ x) (one-add i)))

-- a test that each bit of a word answers lists the elements of the word
pub elements_by_bits : (f : ℕ → Bool) (k n w : ℕ) → ((i : ℕ) → i < n → f (k + i) ≡ has_bit w i) → passing f k n ≡ elements_in k n w
unfolding passing elements_in
elements_by_bits f k zero w a = refl
elements_by_bits f k (suc n) w a =
    let next : (i : ℕ) → i < n → f (suc k + i) ≡ has_bit (w / 2) i =
    λ i l. rw (suc-add, ← add-suc) (a (suc i) (omega arith) ∙ bit_of_half w i) in
    ap₂ (λ (b : Bool) (xs : List ℕ). cond b (k ∷ xs) xs) (rw (add-zero, div-one) at (a 0 (omega arith))) (elements_by_bits f (suc k) n (w / 2) next)

-- the lowest n bits alone
pub elements_within : (k n m w : ℕ) → elements_in k (n + m) (w % 2 ^ n) ≡ elements_in k n w
unfolding elements_in
elements_within k zero m w = rw (zero-add, mod-one) (elements_of_none k m)
elements_within k (suc n) m w =
    let half : w % 2 ^ suc n / 2 ≡ w / 2 % 2 ^ n = ap (λ (x : ℕ). w % 2 ^ x / 2) (sym (add-one n)) ∙ field w n 1 in
    let same : w % 2 ^ suc n % 2 ≡ w % 2 = ap (λ (x : ℕ). w % 2 ^ x % 2) (sym (add-one n)) ∙ mod-mod-pow w n 1 in
    rw (suc-add, half, same, elements_within (suc k) n m (w / 2))

-- a set's elements are those of its first word, and then those of the 37 bits of its second that are elements'
pub set_by_words : (s : ElementSet) → passing (has_element s) 1 101 ≡ elements_in 1 64 s.low ++ elements_in 65 64 (s.high % 2 ^ 37)
set_by_words s =
    elements_split (has_element s) 1 64 37 ∙
    ap₂ (λ (xs ys : List ℕ). xs ++ ys)
    (elements_by_bits (has_element s) 1 64 s.low (λ i l. has_low s (1 + i) (omega arith) (omega arith) ∙ ap (has_bit s.low) (omega arith)))
    (elements_by_bits (has_element s) 65 37 s.high (λ i l. has_high s (65 + i) (omega arith) (omega arith) ∙ ap (has_bit s.high) (omega arith))
    ∙ sym (elements_within 65 37 27 s.high))
