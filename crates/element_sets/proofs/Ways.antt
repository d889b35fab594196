-- What each way through the tests of an element's number says of the set: which word has the bit, if any. Assumes nothing.
use mathlib.Core.Path.{◌≡◌, refl}
use mathlib.Core.Logic.{◌⊎◌, inl, inr}
use mathlib.Core.Bool.{Bool, true, false}
use Prim.Native.Nat.{ℕ, ◌+◌, ◌-◌, ◌<◌, ◌≤◌}
use native.Mathlib.Omega.{arith}
use lib.Dec.{leb}
use lib.Count.{count_trailing_zeros}
use borrow.Author.Tests.{leb-true, leb-false, eq-eqb, ne_eqb, lt-ltb, le-ltb, le-leb, lt-leb}
use Rattle.element_sets.specs.declared.ElementSet.{ElementSet}
use Rattle.element_sets.specs.ElementSets.{element_set, with_bit, has_bit, with_element, has_element, lowest_of}

-- a number is one up to n, or past it
pub up_to_or_past : (m n : ℕ) → (m ≤ n) ⊎ (n < m)
up_to_or_past m n = by (leb m n) refl
  where
    by : (b : Bool) → leb m n ≡ b → (m ≤ n) ⊎ (n < m)
    by true e = inl (leb-true m n e)
    by false e = inr (leb-false m n e)

module _ (s : ElementSet) where
  module _ (e : ℕ) where
    pub with_low : 1 ≤ e → e ≤ 64 → with_element s e ≡ element_set (with_bit s.low (e - 1)) s.high
    unfolding with_element
    with_low h g = rw (le-ltb e 1 h, le-leb e 64 g)

    pub with_high : 64 < e → e ≤ 128 → with_element s e ≡ element_set s.low (with_bit s.high (e - 65))
    unfolding with_element
    with_high h g = rw (le-ltb e 1 (omega arith), lt-leb e 64 h, le-leb e 128 g)

    pub has_zero : e < 1 → has_element s e ≡ false
    unfolding has_element
    has_zero h = rw (lt-ltb e 1 h)

    pub has_low : 1 ≤ e → e ≤ 64 → has_element s e ≡ has_bit s.low (e - 1)
    unfolding has_element
    has_low h g = rw (le-ltb e 1 h, le-leb e 64 g)

    pub has_high : 64 < e → e ≤ 128 → has_element s e ≡ has_bit s.high (e - 65)
    unfolding has_element
    has_high h g = rw (le-ltb e 1 (omega arith), lt-leb e 64 h, le-leb e 128 g)

    pub has_past : 128 < e → has_element s e ≡ false
    unfolding has_element
    has_past h = rw (le-ltb e 1 (omega arith), lt-leb e 64 (omega arith), lt-leb e 128 h)

  pub lowest_low : (s.low ≡ 0 → ⊥) → lowest_of s ≡ count_trailing_zeros 64 s.low + 1
  unfolding lowest_of
  lowest_low h = rw (ne_eqb s.low 0 h)

  pub lowest_high : s.low ≡ 0 → (s.high ≡ 0 → ⊥) → lowest_of s ≡ count_trailing_zeros 64 s.high + 65
  unfolding lowest_of
  lowest_high h g = rw (eq-eqb s.low 0 h, ne_eqb s.high 0 g)

  pub lowest_none : s.low ≡ 0 → s.high ≡ 0 → lowest_of s ≡ 0
  unfolding lowest_of
  lowest_none h g = rw (eq-eqb s.low 0 h, eq-eqb s.high 0 g)
