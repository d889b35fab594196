-- What a loop over elements has come to: the set of those below an element, and the elements that a word still holds. They are the code's own: a set is `set_of` of
-- ElementSets.antt. Assumes nothing.
use Rattle.std.specs.Prelude.{ℕ, zero, suc, ◌-◌, ◌/◌, ◌%◌, min, List, [], ◌∷◌, Bool, cond, eqb}
use Rattle.element_sets.specs.declared.ElementSet.{ElementSet}
use Rattle.element_sets.specs.ElementSets.{bits, element_set}

-- the set of those below element e
unfoldable pub set_below : (ℕ → Bool) → ℕ → ElementSet
set_below f e = element_set (bits f 1 (min (e - 1) 64)) (bits f 65 (e - 65))

-- the elements of a word of n bits whose bit 0 is element k, rising
unfoldable pub elements_in : ℕ → ℕ → ℕ → List ℕ
elements_in k zero w = []
elements_in k (suc n) w = cond (eqb (w % 2) 1) (k ∷ elements_in (suc k) n (w / 2)) (elements_in (suc k) n (w / 2))
