-- Sets of elements, such as those that a recast loses: a test says of each element whether it is one; the list of those that pass it, and the set of them as two words
-- with one bit for each element, element 1 bit 0 of the first and element 65 bit 0 of the second. Assumes nothing.
use Rattle.std.specs.Prelude.{◌≡◌, ℕ, zero, suc, ◌+◌, ◌-◌, ◌*◌, ◌/◌, ◌%◌, ◌^◌, List, [], ◌∷◌, Bool, true, false, ◌&&◌, cond, eqb, leb, ltb}
use Rattle.std.specs.Int.Bits.{bit_or}
use Rattle.std.specs.Int.Count.{ones, count_trailing_zeros}
use Rattle.element_sets.specs.declared.ElementSet.{ElementSet}

abbrev pub bit : Bool → ℕ
bit true = 1
bit false = 0

-- of the n elements from k on, those that pass the test, rising
unfoldable pub passing : (ℕ → Bool) → ℕ → ℕ → List ℕ
passing f k zero = []
passing f k (suc n) = cond (f k) (k ∷ passing f (suc k) n) (passing f (suc k) n)

-- the word of n bits whose bit i says whether element k + i passes the test
unfoldable pub bits : (ℕ → Bool) → ℕ → ℕ → ℕ
bits f k zero = 0
bits f k (suc n) = bit (f k) + bits f (suc k) n * 2

abbrev pub element_set : ℕ → ℕ → ElementSet
element_set a b = record { low = a; high = b }

abbrev pub no_elements : ElementSet
no_elements = element_set 0 0

-- the 101 elements: the list of those that pass the test, and the set of them
abbrev pub list_of : (ℕ → Bool) → List ℕ
list_of f = passing f 1 101

unfoldable pub set_of : (ℕ → Bool) → ElementSet
set_of f = element_set (bits f 1 64) (bits f 65 37)

-- a word with bit k set, and whether bit k of a word is set
abbrev pub with_bit : ℕ → ℕ → ℕ
with_bit w k = bit_or w (2 ^ k)

abbrev pub has_bit : ℕ → ℕ → Bool
has_bit w k = eqb (w / 2 ^ k % 2) 1

-- the set with element e besides, and whether element e is in the set; the numbers 1 to 128 have a bit, and no other
unfoldable pub with_element : ElementSet → ℕ → ElementSet
with_element s e =
    cond (ltb e 1) s
    (cond (leb e 64) (element_set (with_bit s.low (e - 1)) s.high)
    (cond (leb e 128) (element_set s.low (with_bit s.high (e - 65))) s))

unfoldable pub has_element : ElementSet → ℕ → Bool
has_element s e =
    cond (ltb e 1) false
    (cond (leb e 64) (has_bit s.low (e - 1))
    (cond (leb e 128) (has_bit s.high (e - 65)) false))

-- the number of ones
abbrev pub count_of : ElementSet → ℕ
count_of s = ones s.low + ones s.high

-- the zeros below the lowest one say which element it is; 0 where there is none
unfoldable pub lowest_of : ElementSet → ℕ
lowest_of s = cond (eqb s.low 0) (cond (eqb s.high 0) 0 (count_trailing_zeros 64 s.high + 65)) (count_trailing_zeros 64 s.low + 1)

-- the first of a list, 0 where it is empty
abbrev pub first : List ℕ → ℕ
first [] = 0
first (x ∷ xs) = x

-- every number of a list is above the one before it, and the first above 0
unfoldable pub rises_above : ℕ → List ℕ → Bool
rises_above k [] = true
rises_above k (x ∷ xs) = ltb k x && rises_above x xs

abbrev pub Rising : List ℕ → Type 0
Rising xs = rises_above 0 xs ≡ true
