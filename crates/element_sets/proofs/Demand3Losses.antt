-- Demand 3: the two words are the set of the elements that are lost, whatever test says which these are. Assumes nothing.
--     listed_exactly, not_listed   the list has exactly the elements from 1 to 101 that are lost
--     rising                       in rising order, so each once
--     test_is_membership           the test of a number's bit says whether the list has that number, whatever the number
--     has_exactly                  and of an element, whether it is lost
--     ones_are_length              the ones of the two words are as many as the list has elements
--     lowest_is_head               the zeros below the lowest one give the first of the list, 0 where it is empty
--     same_losses, same_list       elements that are lost alike give the same set and the same list
--     empty_set, empty_list        where no element is lost, both are empty
--     none_lost                    where the set is empty, none is lost
use mathlib.Core.Path.{◌≡◌, refl, sym, ap, ap₂, ◌∙◌}
use mathlib.Core.Logic.{◌⊎◌, inl, inr, ⊎_elim}
use mathlib.Core.List.{List, [], ◌∷◌, ◌++◌}
use mathlib.Core.Bool.{Bool, false}
use Prim.Native.Nat.{ℕ, ◌+◌, ◌-◌, ◌<◌, ◌≤◌}
use native.Mathlib.Nat.{add_comm}
use native.Mathlib.Omega.{arith}
use lib.ListN.{length, length-append}
use Rattle.element_sets.specs.declared.ElementSet.{ElementSet}
use Rattle.element_sets.specs.ElementSets.{passing, bits, element_set, no_elements, list_of, set_of, has_bit, has_element, count_of, lowest_of, first, Rising}
use Rattle.text.specs.LegalTexts.{member}
use Rattle.element_sets.proofs.Words.{has_bit_lem, has_no_bit, word_ones, word_first, word_none, word_some}
use Rattle.element_sets.proofs.Listed.{none_outside, listed, elements_split, elements_rise, same_word, same_elements, no_word, no_elements_lem}
use Rattle.element_sets.proofs.Ways.{up_to_or_past, has_zero, has_low, has_high, has_past, lowest_low, lowest_high, lowest_none}

module _ (f : ℕ → Bool) where
  module _ (e : ℕ) where
    pub listed_exactly : 1 ≤ e → e ≤ 101 → member e (list_of f) ≡ f e
    listed_exactly h l =
        let here : 1 + (e - 1) ≡ e = omega arith in
        ap (λ (x : ℕ). member x (list_of f)) (sym here) ∙ listed f 1 101 (e - 1) (omega arith) ∙ ap f here

    pub not_listed : (e < 1) ⊎ (101 < e) → member e (list_of f) ≡ false
    not_listed = none_outside f e 1 101

    -- of the n elements from k on, the word has the bit of each that is lost
    word_says : (k n : ℕ) → k ≤ e → e < k + n → has_bit (bits f k n) (e - k) ≡ f e
    word_says k n h l = let here : k + (e - k) ≡ e = omega arith in has_bit_lem f k n (e - k) (omega arith) ∙ ap f here

    -- the test of each run of numbers
    in_none : e ≤ 0 → has_element (set_of f) e ≡ member e (list_of f)
    in_none h = has_zero (set_of f) e (omega arith) ∙ sym (not_listed (inl (omega arith)))

    in_low : 1 ≤ e → e ≤ 64 → has_element (set_of f) e ≡ member e (list_of f)
    unfolding set_of
    in_low h l = has_low (set_of f) e h l ∙ word_says 1 64 h (omega arith) ∙ sym (listed_exactly h (omega arith))

    in_high : 64 < e → e ≤ 101 → has_element (set_of f) e ≡ member e (list_of f)
    unfolding set_of
    in_high h l = has_high (set_of f) e h (omega arith) ∙ word_says 65 37 h (omega arith) ∙ sym (listed_exactly (omega arith) l)

    past_101 : 101 < e → e ≤ 128 → has_element (set_of f) e ≡ member e (list_of f)
    unfolding set_of
    past_101 h l = has_high (set_of f) e (omega arith) l ∙ has_no_bit f 65 37 (e - 65) (omega arith) ∙ sym (not_listed (inr h))

    past_128 : 128 < e → has_element (set_of f) e ≡ member e (list_of f)
    past_128 h = has_past (set_of f) e h ∙ sym (not_listed (inr (omega arith)))

    pub test_is_membership : has_element (set_of f) e ≡ member e (list_of f)
    test_is_membership =
        ⊎_elim in_none
        (λ h. ⊎_elim (in_low h) (λ h. ⊎_elim (in_high h) (λ h. ⊎_elim (past_101 h) past_128 (up_to_or_past e 128)) (up_to_or_past e 101)) (up_to_or_past e 64))
        (up_to_or_past e 0)

    -- an element is in the set exactly where it passes the test
    pub has_exactly : 1 ≤ e → e ≤ 101 → has_element (set_of f) e ≡ f e
    has_exactly h l = test_is_membership ∙ listed_exactly h l

  pub rising : Rising (list_of f)
  rising = elements_rise f 0 1 101 (omega arith)

  pub ones_are_length : count_of (set_of f) ≡ length (list_of f)
  unfolding set_of
  ones_are_length = rw (word_ones f 1 64, word_ones f 65 37, elements_split f 1 64 37, length-append)

  pub lowest_is_head : lowest_of (set_of f) ≡ first (list_of f)
  unfolding set_of
  lowest_is_head = by (passing f 1 64) refl (passing f 65 37) refl ∙ ap first (sym (elements_split f 1 64 37))
    where
      by : (xs : List ℕ) → passing f 1 64 ≡ xs → (ys : List ℕ) → passing f 65 37 ≡ ys → lowest_of (set_of f) ≡ first (xs ++ ys)
      by (x ∷ xs) p ys q = lowest_low (set_of f) (word_some f 1 64 x xs p) ∙ add_comm _ 1 ∙ word_first f 1 64 64 x xs (omega arith) p
      by [] p (y ∷ ys) q =
          lowest_high (set_of f) (word_none f 1 64 p) (word_some f 65 37 y ys q) ∙ add_comm _ 65 ∙ word_first f 65 37 64 y ys (omega arith) q
      by [] p [] q = lowest_none (set_of f) (word_none f 1 64 p) (word_none f 65 37 q)

-- two tests that agree on every element
module _ (f g : ℕ → Bool) (agree : (e : ℕ) → 1 ≤ e → e ≤ 101 → f e ≡ g e) where
  pub same_losses : set_of f ≡ set_of g
  unfolding set_of
  same_losses =
      ap₂ element_set (same_word f g 1 64 (λ e h l. agree e h (omega arith))) (same_word f g 65 37 (λ e h l. agree e (omega arith) (omega arith)))

  pub same_list : list_of f ≡ list_of g
  same_list = same_elements f g 1 101 (λ e h l. agree e h (omega arith))

-- a test that no element passes
module _ (f : ℕ → Bool) (kept : (e : ℕ) → 1 ≤ e → e ≤ 101 → f e ≡ false) where
  pub empty_set : set_of f ≡ no_elements
  unfolding set_of
  empty_set = same_losses f (λ e. false) kept ∙ ap₂ element_set (no_word 1 64) (no_word 65 37)

  pub empty_list : list_of f ≡ []
  empty_list = same_list f (λ e. false) kept ∙ no_elements_lem 1 101

-- and none passes a test whose set is the empty one
pub none_lost : (f : ℕ → Bool) → set_of f ≡ no_elements → (e : ℕ) → 1 ≤ e → e ≤ 101 → f e ≡ false
none_lost f n e h l =
    let never : ℕ → Bool = λ e. false in
    sym (has_exactly f e h l) ∙ ap (λ (s : ElementSet). has_element s e) (n ∙ sym (empty_set never (λ e h l. refl))) ∙ has_exactly never e h l
