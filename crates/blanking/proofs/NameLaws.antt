-- Words of bits from the bytes of a record: the bits of some elements, and of nothing else. Assumes nothing.
use mathlib.Core.Path.{◌≡◌, sym, ap, ◌∙◌}
use mathlib.Core.Bool.{Bool, true, false, cond, not, ◌||◌}
use mathlib.Core.List.{List}
use mathlib.Core.Logic.{inl, inr}
use Prim.Native.Nat.{ℕ, ◌+◌, ◌*◌, ◌^◌, ◌%◌, ◌<◌, ◌≤◌}
use native.Mathlib.Nat.{le_refl}
use native.Mathlib.Numerals.{add-one}
use native.Mathlib.Omega.{arith}
use Rattle.std.proofs.lemmas.Nat.{one_shl}
use borrow.Author.Tests.{not-true, not-false}
use lib.Bits.{bit_or, or_zero_r}
use Rattle.text.specs.Bytes.{between}
use Rattle.element_sets.specs.ElementSets.{bit, bits}
use Rattle.element_sets.proofs.Joined.{or_words, placed_word}
use Rattle.element_sets.proofs.Listed.{same_word, no_word}
use Rattle.element_sets.proofs.Words.{word_set, word_not_set}
use Rattle.layout.specs.Page.{first_byte}
use Rattle.blanking.specs.LostBytes.{Spot, in_element, some, named}
use Rattle.blanking.proofs.Steps.{within, off}

-- a word grows by a bit that is set or not
pub word_on : (f : ℕ → Bool) (k n : ℕ) (w : ℕ) → w ≡ bits f k n → (x : Bool) → x ≡ f (k + n) → (mask : ℕ) → mask ≡ 2 ^ n → (v : ℕ) → v ≡ cond x mask 0 → bit_or w v ≡ bits f k (n + 1)
word_on f k n w g true h mask m v q = rw (g, q, m, add-one n) (word_set f k n (sym h))
word_on f k n w g false h mask m v q = rw (g, q, or_zero_r, add-one n) (word_not_set f k n (sym h))

-- the mask of one of a byte's bits, which is 1 moved up
pub byte_on : (f : ℕ → Bool) (k n : ℕ) (w : ℕ) → w ≡ bits f k n → (x : Bool) → x ≡ f (k + n) → (v : ℕ) → v ≡ cond x ((1 * 2 ^ n) % 2 ^ 8) 0 → n < 8 → bit_or w v ≡ bits f k (n + 1)
byte_on f k n w g x h v q l = word_on f k n w g x h _ (one_shl n 8 l) v q

module _ (xs : List ℕ) (lo hi : ℕ) where
  -- the test of the first byte of an element
  abbrev pub first : ℕ → Bool
  first e = between lo hi (first_byte e xs)

  -- the elements from k + s on, so many and one more, in a word of n bits from element k on
  pub some_word : (k s m n : ℕ) → s + (m + 1) ≤ n → bits first (k + s) (m + 1) * 2 ^ s ≡ bits (named (some (k + s) (k + s + m) lo hi) xs) k n
  some_word k s m n q =
      placed_word first (named (some (k + s) (k + s + m) lo hi) xs) k s (m + 1) n q
      (λ e l h. sym (within e (first_byte e xs) (k + s) (k + s + m) lo hi l (omega arith)))
      (λ e l h. off e (first_byte e xs) (k + s) (k + s + m) lo hi (k + s) (k + s + m) (le_refl _) (le_refl _) (inl (omega arith)))
      (λ e l h. off e (first_byte e xs) (k + s) (k + s + m) lo hi (k + s) (k + s + m) (le_refl _) (le_refl _) (inr (omega arith)))

  -- one element
  pub one_word : (k s n : ℕ) → s + 1 ≤ n → (v : ℕ) → v ≡ cond (first (k + s)) (2 ^ s) 0 → v ≡ bits (named (some (k + s) (k + s + 0) lo hi) xs) k n
  unfolding bits
  one_word k s n q v h = h ∙ by (first (k + s)) ∙ some_word k s 0 n q
    where
      by : (x : Bool) → cond x (2 ^ s) 0 ≡ (bit x + 0 * 2) * 2 ^ s
      by true = omega arith
      by false = omega arith

  -- eight elements
  pub eight_word : (s : ℕ) → s + 8 ≤ 37 → (w v : ℕ) → w ≡ bits first (65 + s) 8 → v ≡ w * 2 ^ s → v ≡ bits (named (some (65 + s) (65 + s + 7) lo hi) xs) 65 37
  eight_word s h w v g q = q ∙ ap (λ (u : ℕ). u * 2 ^ s) g ∙ some_word 65 s 7 37 h

pub joined : (f g : ℕ → Bool) (k n u v : ℕ) → u ≡ bits f k n → v ≡ bits g k n → bit_or u v ≡ bits (λ e. f e || g e) k n
joined f g k n u v p q = rw (p, q) (or_words f g k n)

-- a step that is taken or not, by its test
pub none_named : (lost : Bool → Spot → ℕ → Bool) → ((at : Spot) (b : ℕ) → lost false at b ≡ false) → (x : Bool) → not x ≡ true → (xs : List ℕ) (k n : ℕ) → 0 ≡ bits (named (lost x) xs) k n
none_named lost f x h xs k n = sym (same_word (named (lost x) xs) (λ e. false) k n (λ e l m. rw (not-true x h) (f (in_element e) (first_byte e xs))) ∙ no_word k n)

pub some_named : (lost : Bool → Spot → ℕ → Bool) (x : Bool) → not x ≡ false → (xs : List ℕ) (k n v : ℕ) → v ≡ bits (named (lost true) xs) k n → v ≡ bits (named (lost x) xs) k n
some_named lost x h xs k n v f = rw (not-false x h) f

pub as_tested : (lost : Bool → Spot → ℕ → Bool) (x y : Bool) → x ≡ y → (xs : List ℕ) (k n v : ℕ) → v ≡ bits (named (lost x) xs) k n → v ≡ bits (named (lost y) xs) k n
as_tested lost x y e xs k n v f = rw (← e) f
