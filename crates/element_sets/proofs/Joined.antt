-- Words put together: two that are or-ed are the word of either test; a word moved up is the word of the same test among more elements. Assumes nothing.
use mathlib.Core.Path.{◌≡◌, refl, sym, ap, ◌∙◌}
use mathlib.Core.Bool.{Bool, true, false, ◌||◌}
use Prim.Native.Nat.{ℕ, zero, suc, ◌+◌, ◌-◌, ◌*◌, ◌^◌, ◌≤◌, max}
use native.Mathlib.Nat.{pow-suc, mul_assoc, add-suc, suc-add, add-zero, zero-add}
use native.Mathlib.Omega.{arith}
use lib.Bits.{bit_or, or_step}
use Rattle.element_sets.specs.ElementSets.{bit, bits}
use Rattle.element_sets.proofs.Words.{half, odd}
use Rattle.element_sets.proofs.Listed.{Agree, same_word, no_word}

max_bits : (a b : Bool) → max (bit a) (bit b) ≡ bit (a || b)
max_bits true true = refl
max_bits true false = refl
max_bits false true = refl
max_bits false false = refl

pub or_words : (f g : ℕ → Bool) (k n : ℕ) → bit_or (bits f k n) (bits g k n) ≡ bits (λ e. f e || g e) k n
unfolding bits
or_words f g k zero = refl
or_words f g k (suc n) =
    or_step (bit (f k) + bits f (suc k) n * 2) (bit (g k) + bits g (suc k) n * 2) ∙
    rw (half (f k) (bits f (suc k) n), half (g k) (bits g (suc k) n), odd (f k) (bits f (suc k) n), odd (g k) (bits g (suc k) n), or_words f g (suc k) n, max_bits (f k) (g k))
    (omega arith)

-- the first m elements, and then the others
word_split : (f : ℕ → Bool) (k m n : ℕ) → bits f k (m + n) ≡ bits f k m + bits f (k + m) n * 2 ^ m
unfolding bits
word_split f k zero n = rw (zero-add, add-zero) (omega arith)
word_split f k (suc m) n =
    let rest : bits f (suc k) (m + n) ≡ bits f (suc k) m + bits f (k + suc m) n * 2 ^ m = rw (add-suc, ← suc-add) (word_split f (suc k) m n) in
    rw (suc-add, pow-suc, ← mul_assoc) (omega (arith, rest))

-- a word of m elements moved up by s places: g passes where f does, and nowhere else
pub placed_word : (f g : ℕ → Bool) (k s m n : ℕ) → s + m ≤ n → Agree f g (k + s) m → Agree g (λ e. false) k s → Agree g (λ e. false) (k + s + m) (n - (s + m)) →
    bits f (k + s) m * 2 ^ s ≡ bits g k n
placed_word f g k s m n h same below above =
    let all : n ≡ s + (m + (n - (s + m))) = omega arith in
    let low : bits g k s ≡ 0 = same_word g (λ e. false) k s below ∙ no_word k s in
    let high : bits g (k + s + m) (n - (s + m)) ≡ 0 = same_word g (λ e. false) (k + s + m) (n - (s + m)) above ∙ no_word (k + s + m) (n - (s + m)) in
    let own : bits g (k + s) (m + (n - (s + m))) ≡ bits f (k + s) m = word_split g (k + s) m (n - (s + m)) ∙ rw high (omega (arith, same_word f g (k + s) m same)) in
    sym (ap (bits g k) all ∙ word_split g k s (m + (n - (s + m))) ∙ rw (low, own) (omega arith))
