-- A record made of the texts of its elements, one after the other. Assumes nothing.
use Rattle.std.specs.Prelude.{ℕ, zero, suc, List, [], ◌++◌, take}
use Rattle.layout.specs.declared.Edition.{Edition}
use Rattle.layout.specs.Editions.{length_of, last_element}

-- the texts of the n elements from e on
unfoldable pub row_from : (ℕ → List ℕ) → ℕ → ℕ → List ℕ
row_from text e zero = []
row_from text e (suc n) = text e ++ row_from text (suc e) n

-- all editions share columns, so the record of one is the front of them all
unfoldable pub record_from : Edition → (ℕ → List ℕ) → List ℕ
record_from ed text = take (length_of ed) (row_from text 1 last_element)
