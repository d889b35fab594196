-- What the glance says of a record where it says yes: every element is legal and every tie holds. The rest is the code's own way to it. Assumes nothing.
use Rattle.std.specs.Prelude.{ℕ, ◌+◌, ◌≤◌, ◌≡◌, List, [], ◌∷◌, true, false, ◌||◌, eqb, leb, length, get_or}
use Rattle.text.specs.Bytes.{word}
use Rattle.layout.specs.declared.Edition.{Edition}
use Rattle.layout.specs.declared.Edition.TheVariants.{One, Three, Four}
use Rattle.layout.specs.Editions.{length_of, last_of}
use Rattle.layout.specs.Page.{start_of, text_of, first_byte, legal}
use Rattle.ties.specs.Ties.{tie}
use Rattle.glance.specs.Tests.{neither, last_highest, plus_zero, top_digit, half_digit, last_fits, needs, octant_near, common}
use Rattle.glance.specs.Limits.{Limited}

-- what makes a text a record of the edition
pub record Sure (ed : Edition) (xs : List ℕ) : Type 0 where
  pub full : length xs ≡ length_of ed
  pub lawful : (e : ℕ) → 1 ≤ e → e ≤ last_of ed → legal ed xs e ≡ true
  pub tied : (k : ℕ) → tie ed xs k ≡ true

-- some property of each of some elements
unfoldable pub All : (ℕ → Type 0) → List ℕ → Type 0
All P [] = Unit
All P (e ∷ es) = P e × All P es

abbrev pub Limits : List ℕ → List ℕ → Type 0
Limits es xs = All (Limited xs) es

-- the elements whose number has limits of its own, as the code takes them together
abbrev pub dates : List ℕ
dates = 3 ∷ 4 ∷ 5 ∷ []

abbrev pub places : List ℕ
places = 7 ∷ 8 ∷ []

abbrev pub winds : List ℕ
winds = 11 ∷ 13 ∷ 20 ∷ []

abbrev pub falls : List ℕ
falls = 34 ∷ 48 ∷ 56 ∷ []

abbrev pub courses : List ℕ
courses = 87 ∷ 88 ∷ 91 ∷ 92 ∷ []

-- column 1 is there, and ix is none of the digits between its codes that their run holds
abbrev pub Codes : List ℕ → Type 0
Codes xs = (eqb (first_byte 1 xs) 32 ≡ false) × (neither 50 51 (first_byte 46 xs) ≡ true)

-- the sign in element e and the temperature after it: no minus zero, and a sign of 5 or above or a last digit that column 1 takes
pub record Temperature (xs : List ℕ) (e top half : ℕ) : Type 0 where
  pub signed : plus_zero (last_highest xs (start_of e)) ≡ true
  pub last : (leb 53 (first_byte e xs) || last_fits top half (get_or xs (start_of e + 3) 0)) ≡ true

abbrev pub Degrees : List ℕ → ℕ → Type 0
Degrees xs e = Temperature xs e (top_digit (first_byte 1 xs)) (half_digit (first_byte 1 xs))

abbrev pub Temperatures : List ℕ → Type 0
Temperatures xs = (Degrees xs 16 × Degrees xs 18) × (Degrees xs 28 × Degrees xs 50)

-- the month has the day in every year
abbrev pub InEveryYear : List ℕ → Type 0
InEveryYear xs = common (word (text_of 3 xs)) (word (text_of 4 xs)) ≡ true

-- what all editions ask alike, and what each asks besides
abbrev pub Alike : List ℕ → Type 0
Alike xs = Limits dates xs × (Limits places xs × (Limits winds xs × (Limits falls xs × (Codes xs × (Temperatures xs × InEveryYear xs)))))

abbrev pub Later : List ℕ → Type 0
Later xs = Limits courses xs × ((neither 50 54 (first_byte 6 xs) ≡ true) × (needs (first_byte 93 xs) (first_byte 14 xs) ≡ true))

abbrev pub Rest : Edition → List ℕ → Type 0
Rest One xs = octant_near (first_byte 6 xs) (word (text_of 8 xs)) ≡ true
Rest Three xs = Later xs
Rest Four xs = Later xs
