-- The readings that packed numbers say, the numbers that say readings, and what showing a text leaves in a lent buffer. Assumes nothing.
use Rattle.std.specs.Prelude.{ℕ, zero, suc, ◌+◌, ◌-◌, ◌*◌, Bool, cond, ◌&&◌, List, [], ◌∷◌, eqb, leb, ℤ, pos, length, get_or, Err, Ok}
use Rattle.refusals.specs.Lent.{overwritten}
use Rattle.layout.specs.Editions.{edition_number, last_element}
use Rattle.checking.specs.Check.{Answer}
use Rattle.reading.specs.declared.Kind.{Kind}
use Rattle.reading.specs.declared.Kind.TheVariants.{Measured, Computed, IcedMeasured, IcedComputed}
use Rattle.reading.specs.declared.Reading.{Reading}
use Rattle.reading.specs.declared.Reading.TheVariants.{Missing, Code, Text, Amount, At}
use Rattle.reading.specs.Answers.{entries_of, read_as}
use Rattle.spelling.specs.Same.{kind_number}
use Rattle.trial.specs.declared.Packed.{Packed}

abbrev pub kind_from : ℕ → Kind
kind_from n = cond (eqb n 0) Measured (cond (eqb n 1) Computed (cond (eqb n 2) IcedMeasured IcedComputed))

-- by its case: 1 a code, 2 a text, 3 an amount, 4 a place, and else missing
unfoldable pub reading_from : ℕ → ℕ → ℕ → ℕ → ℤ → Reading
reading_from case first second digit amount =
    cond (eqb case 1) (Code first)
    (cond (eqb case 2) (Text first)
    (cond (eqb case 3) (Amount amount (kind_from second))
    (cond (eqb case 4) (At (record { latitude = amount; longitude = second; digit = digit }))
    Missing)))

-- element k + 1 has the four numbers from 4 k on and the amount at k; what is not there is 0
unfoldable pub reading_at : List ℕ → List ℤ → ℕ → Reading
reading_at numbers amounts k =
    reading_from (get_or numbers (4 * k) 0) (get_or numbers (4 * k + 1) 0) (get_or numbers (4 * k + 2) 0) (get_or numbers (4 * k + 3) 0) (get_or amounts k (pos 0))

-- the entries of all elements
abbrev pub entries_in : List ℕ → List ℤ → List Reading
entries_in numbers amounts = entries_of (λ e. reading_at numbers amounts (e - 1))

-- the numbers of a reading, the one with a sign last
unfoldable pub packed : Reading → Packed
packed Missing = record { case = 0; first = 0; second = 0; digit = 0; amount = pos 0 }
packed (Code n) = record { case = 1; first = n; second = 0; digit = 0; amount = pos 0 }
packed (Text n) = record { case = 2; first = n; second = 0; digit = 0; amount = pos 0 }
packed (Amount a k) = record { case = 3; first = 0; second = kind_number k; digit = 0; amount = a }
packed (At p) = record { case = 4; first = 0; second = p.longitude; digit = p.digit; amount = p.latitude }

-- the numbers of the n elements from e on, and of all
unfoldable pub numbers_from : (ℕ → Reading) → ℕ → ℕ → List ℕ
numbers_from reads e zero = []
numbers_from reads e (suc n) = (packed (reads e)).case ∷ (packed (reads e)).first ∷ (packed (reads e)).second ∷ (packed (reads e)).digit ∷ numbers_from reads (e + 1) n

unfoldable pub amounts_from : (ℕ → Reading) → ℕ → ℕ → List ℤ
amounts_from reads e zero = []
amounts_from reads e (suc n) = (packed (reads e)).amount ∷ amounts_from reads (e + 1) n

abbrev pub numbers_of : List Reading → List ℕ
numbers_of entries = numbers_from (read_as entries) 1 last_element

abbrev pub amounts_of : List Reading → List ℤ
amounts_of entries = amounts_from (read_as entries) 1 last_element

-- the number of an accepted record's edition, 0 where it is refused
unfoldable pub edition_in : Answer → ℕ
edition_in (Ok ed) = edition_number ed
edition_in (Err r) = 0

-- room for the numbers of all elements, and what is laid at the front of what is lent where there is room
abbrev pub room : List ℕ → List ℤ → Bool
room numbers amounts = leb (4 * last_element) (length numbers) && leb last_element (length amounts)

abbrev pub laid_in : {A : Type 0} → Bool → List A → List A → List A
laid_in fits laid before = cond fits (overwritten laid before) before

-- a text at the front of a buffer that has room for it
abbrev pub shown_in : List ℕ → List ℕ → List ℕ
shown_in text before = laid_in (leb (length text) (length before)) text before
