-- The elements that a recast loses, told rising: how long their numbers are, and how the words of the set give them. Assumes nothing.
use mathlib.Core.Path.{◌≡◌, refl, sym, ap, ap₂, ◌∙◌}
use mathlib.Core.Bool.{Bool, true, false, cond}
use mathlib.Core.List.{List, [], ◌∷◌, ◌++◌, append_assoc}
use Prim.Native.Nat.{ℕ, zero, suc, ◌+◌, ◌-◌, ◌*◌, ◌/◌, ◌%◌, ◌^◌, ◌<◌, ◌≤◌}
use native.Mathlib.Nat.{mod-eq_of_lt}
use native.Mathlib.Omega.{arith}
use lib.ListN.{length, length-append}
use lib.Dec.{eqb, lit≤}
use lib.Bits.{bit_and}
use lib.Count.{count_trailing_zeros}
use Rattle.text.specs.Bytes.{bytes_of}
use Rattle.wording.specs.Wording.{decimal, numbered}
use Rattle.wording.specs.declared.sheet.Sheet.{Sheet}
use Rattle.wording.specs.Puts.{HasRoom, Adds}
use Rattle.wording.proofs.PutLaws.{within}
use Rattle.wording.proofs.WordingLaws.{small_number}
use Rattle.element_sets.specs.declared.ElementSet.{ElementSet}
use Rattle.element_sets.specs.Loops.{elements_in}
use Rattle.element_sets.proofs.WordElements.{elements_of_none, elements_within, lowest_first, set_by_words}
use Rattle.recast_lines.specs.Sentences.{numbers, lost}

-- numbers, and then others
numbers_append : (xs ys : List ℕ) → numbers (xs ++ ys) ≡ numbers xs ++ numbers ys
unfolding numbers
numbers_append [] ys = refl
numbers_append (x ∷ xs) ys = ap (λ (t : List ℕ). numbered (bytes_of " ") x ++ t) (numbers_append xs ys) ∙ sym (append_assoc (numbered (bytes_of " ") x) (numbers xs) (numbers ys))

-- an element takes up four bytes at most
numbers_short : (k n w : ℕ) → k + n ≤ 1000 → length (numbers (elements_in k n w)) ≤ 4 * n
unfolding elements_in numbers bytes_of
numbers_short k zero w h = omega arith
numbers_short k (suc n) w h = by (eqb (w % 2) 1) (elements_in (suc k) n (w / 2)) (numbers_short (suc k) n (w / 2) (omega arith))
  where
    by : (x : Bool) (xs : List ℕ) → length (numbers xs) ≤ 4 * n → length (numbers (cond x (k ∷ xs) xs)) ≤ 4 * suc n
    by true xs l = omega (arith, length-append (numbered (bytes_of " ") k) (numbers xs), length-append (bytes_of " ") (decimal k), small_number k (omega arith))
    by false xs l = omega arith

-- the elements of a word: the lowest, and then those of the word without its lowest bit
abbrev pub told : ℕ → ℕ → List ℕ
told first w = numbers (elements_in first 64 w)

module _ (first w : ℕ) where
  pub told_none : w ≡ 0 → told first w ≡ []
  unfolding numbers
  told_none z = rw z (ap numbers (elements_of_none first 64))

  module _ (below : w < 2 ^ 64) (some : w ≡ 0 → ⊥) where
    pub told_next : told first w ≡ numbered (bytes_of " ") (first + count_trailing_zeros 64 w) ++ told first (bit_and w (w - 1))
    unfolding numbers
    told_next = ap numbers (lowest_first 64 first 64 w (lit≤ tt) below some)

    pub told_some : 1 ≤ length (told first w)
    unfolding bytes_of
    told_some = omega (arith, ap length told_next, length-append (numbered (bytes_of " ") (first + count_trailing_zeros 64 w)) (told first (bit_and w (w - 1))))

  -- n bits of it take up four bytes each at most
  module _ (n m : ℕ) (e : n + m ≡ 64) (below : w < 2 ^ n) (low : first ≤ 65) where
    told_short : length (told first w) ≤ 4 * n
    told_short =
        let few : told first w ≡ numbers (elements_in first n w) =
        ap₂ (λ (x y : ℕ). numbers (elements_in first x y)) (sym e) (sym (mod-eq_of_lt below)) ∙ ap numbers (elements_within first n m w) in
        omega (arith, ap length few, numbers_short first n w (omega arith))

    pub told_room : (s : Sheet) → HasRoom (4 * n + 20) s → HasRoom (length (told first w) + 20) s × (first ≤ 65)
    told_room s h = (omega (arith, told_short), low)

    pub told_within : {before after : Sheet} → Adds (told first w) (length (told first w)) before after → Adds (told first w) (4 * n) before after
    told_within p = within told_short p

-- the elements of a set: those of its first word, and then those of the 37 bits of its second that are elements'
pub lost_by_words : (s : ElementSet) → lost s ≡ told 1 s.low ++ told 65 (s.high % 2 ^ 37)
lost_by_words s = ap numbers (set_by_words s) ∙ numbers_append (elements_in 1 64 s.low) (elements_in 65 64 (s.high % 2 ^ 37))
