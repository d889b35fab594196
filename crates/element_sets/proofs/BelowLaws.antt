-- The set that is built an element at a time: it starts empty, takes each element that is lost, and is in the end the set of all the lost elements.
-- A loop over the elements cites these. Assumes nothing.
use mathlib.Core.Path.{◌≡◌, refl, sym, ap, ◌∙◌}
use mathlib.Core.Logic.{⊎_elim}
use mathlib.Core.Bool.{Bool, true, false}
use Prim.Native.Nat.{ℕ, suc, ◌+◌, ◌-◌, ◌<◌, ◌≤◌, min}
use native.Mathlib.Nat.{min-eq_left, min-eq_right}
use native.Mathlib.Omega.{arith}
use Rattle.element_sets.specs.declared.ElementSet.{ElementSet}
use Rattle.element_sets.specs.ElementSets.{bits, element_set, no_elements, set_of, with_bit, with_element}
use Rattle.element_sets.specs.Loops.{set_below}
use Rattle.element_sets.proofs.Words.{word_set, word_not_set}
use Rattle.element_sets.proofs.Ways.{up_to_or_past, with_low, with_high}

module _ (f : ℕ → Bool) where
  -- nothing is lost before the first element
  pub below_first : no_elements ≡ set_below f 1
  unfolding set_below bits
  below_first = refl

  -- below element 102 are all of them
  pub below_all : set_below f 102 ≡ set_of f
  unfolding set_below set_of
  below_all = refl

  -- up to element 65 the first word alone has bits, and from there on it is full
  in_low : (e : ℕ) → e ≤ 65 → set_below f e ≡ element_set (bits f 1 (e - 1)) 0
  unfolding set_below bits
  in_low e h =
      let few : min (e - 1) 64 ≡ e - 1 = min-eq_left (omega arith) in
      let none : e - 65 ≡ 0 = omega arith in
      rw (few, none)

  in_high : (e : ℕ) → 65 ≤ e → set_below f e ≡ element_set (bits f 1 64) (bits f 65 (e - 65))
  unfolding set_below
  in_high e h = let full : min (e - 1) 64 ≡ 64 = min-eq_right (omega arith) in rw full

  module _ (e : ℕ) where
    -- a word from element k on takes the bit of element e
    word_takes : (k : ℕ) → k ≤ e → f e ≡ true → with_bit (bits f k (e - k)) (e - k) ≡ bits f k (e + 1 - k)
    word_takes k h t =
        let here : k + (e - k) ≡ e = omega arith in
        let next : suc (e - k) ≡ e + 1 - k = omega arith in
        word_set f k (e - k) (ap f here ∙ t) ∙ ap (bits f k) next

    word_keeps : (k : ℕ) → k ≤ e → f e ≡ false → bits f k (e - k) ≡ bits f k (e + 1 - k)
    word_keeps k h t =
        let here : k + (e - k) ≡ e = omega arith in
        let next : suc (e - k) ≡ e + 1 - k = omega arith in
        word_not_set f k (e - k) (ap f here ∙ t) ∙ ap (bits f k) next

    module _ (h : 1 ≤ e) (l : e ≤ 101) where
      -- an element that is lost is put into the set
      pub below_lost : f e ≡ true → with_element (set_below f e) e ≡ set_below f (e + 1)
      below_lost t = ⊎_elim in_first in_second (up_to_or_past e 64)
        where
          in_first : e ≤ 64 → with_element (set_below f e) e ≡ set_below f (e + 1)
          in_first low =
              ap (λ (s : ElementSet). with_element s e) (in_low e (omega arith))
              ∙ with_low (element_set (bits f 1 (e - 1)) 0) e h low
              ∙ ap (λ (w : ℕ). element_set w 0) (word_takes 1 h t)
              ∙ sym (in_low (e + 1) (omega arith))

          in_second : 64 < e → with_element (set_below f e) e ≡ set_below f (e + 1)
          in_second high =
              ap (λ (s : ElementSet). with_element s e) (in_high e high)
              ∙ with_high (element_set (bits f 1 64) (bits f 65 (e - 65))) e high (omega arith)
              ∙ ap (element_set (bits f 1 64)) (word_takes 65 high t)
              ∙ sym (in_high (e + 1) (omega arith))

      -- one that is kept leaves the set as it is
      pub below_kept : f e ≡ false → set_below f e ≡ set_below f (e + 1)
      below_kept t = ⊎_elim in_first in_second (up_to_or_past e 64)
        where
          in_first : e ≤ 64 → set_below f e ≡ set_below f (e + 1)
          in_first low =
              in_low e (omega arith) ∙ ap (λ (w : ℕ). element_set w 0) (word_keeps 1 h t) ∙ sym (in_low (e + 1) (omega arith))

          in_second : 64 < e → set_below f e ≡ set_below f (e + 1)
          in_second high =
              in_high e high ∙ ap (element_set (bits f 1 64)) (word_keeps 65 high t) ∙ sym (in_high (e + 1) (omega arith))
