-- What reading a record answers: its refusal by rules 1 to 7, or its edition and all its readings. Assumes nothing.
use Rattle.std.specs.Prelude.{ℕ, zero, suc, ◌+◌, ◌-◌, List, [], ◌∷◌, get_or, Err, Ok}
use Rattle.layout.specs.Editions.{last_element}
use Rattle.checking.specs.Check.{Answer}
use Rattle.checking.specs.Check.{checked}
use Rattle.reading.specs.declared.Reading.{Reading}
use Rattle.reading.specs.declared.Reading.TheVariants.{Missing}
use Rattle.reading.specs.declared.Readings.{Readings}
use Rattle.reading.specs.Readings.{reading_of}

-- the entries of the n elements from e on, and of all 101
unfoldable pub entries_from : (ℕ → Reading) → ℕ → ℕ → List Reading
entries_from reads e zero = []
entries_from reads e (suc n) = reads e ∷ entries_from reads (e + 1) n

abbrev pub entries_of : (ℕ → Reading) → List Reading
entries_of reads = entries_from reads 1 last_element

-- an accepted record gives every reading, and those that its edition lacks are missing, having no columns; a refused one gives none
unfoldable pub read_after : Answer → List ℕ → Readings
read_after (Ok ed) xs = record { answer = Ok ed; entries = entries_of (reading_of ed xs) }
read_after (Err r) xs = record { answer = Err r; entries = entries_of (λ e. Missing) }

abbrev pub read_of : List ℕ → Readings
read_of xs = read_after (checked xs) xs

-- what element e reads as, of those entries: the first entry is element 1's
abbrev pub read_as : List Reading → ℕ → Reading
read_as entries e = get_or entries (e - 1) Missing
