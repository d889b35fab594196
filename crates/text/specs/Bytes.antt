-- What the bytes of some columns are: blank, digits, the number that digits say, the part up to the last byte that is not blank.
-- Assumes nothing.
use Rattle.std.specs.Prelude.{ℕ, suc, ◌+◌, ◌-◌, ◌*◌, List, [], ◌∷◌, Bool, true, ◌&&◌, ◌||◌, cond, leb}
use Prim.Native.Char.{code}
use Prim.Native.String.{String, [] as empty, ◌∷◌ as ◌then◌}

-- the test p passes at every byte
unfoldable pub every : (ℕ → Bool) → List ℕ → Bool
every p [] = true
every p (b ∷ bs) = p b && every p bs

-- a byte or a number from lo to hi, and one from a to b or from c to d
abbrev pub between : ℕ → ℕ → ℕ → Bool
between lo hi n = leb lo n && leb n hi

abbrev pub either : ℕ → ℕ → ℕ → ℕ → ℕ → Bool
either a b c d n = between a b n || between c d n

-- printable ASCII
abbrev pub printable : ℕ → Bool
printable b = between 32 126 b

-- '0' to '9'
abbrev pub is_digit : ℕ → Bool
is_digit b = between 48 57 b

-- 'A' to 'Z'
abbrev pub is_letter : ℕ → Bool
is_letter b = between 65 90 b

-- blank over all of the columns, which means missing; where there are no columns there is nothing either
abbrev pub blank : List ℕ → Bool
blank bs = every (between 32 32) bs

abbrev pub digits : List ℕ → Bool
digits bs = every is_digit bs

-- the number that bytes say in a base whose nought is the byte `nought`, after those that said n
unfoldable pub value_from : ℕ → ℕ → ℕ → List ℕ → ℕ
value_from base nought n [] = n
value_from base nought n (b ∷ bs) = value_from base nought (n * base + (b - nought)) bs

-- the number that digits say, after those that said n
abbrev pub number_from : ℕ → List ℕ → ℕ
number_from n bs = value_from 10 48 n bs

abbrev pub number : List ℕ → ℕ
number bs = number_from 0 bs

-- the bytes of some columns as one number, the first byte highest
abbrev pub word : List ℕ → ℕ
word bs = value_from 256 0 0 bs

-- how many bytes at the front pass the test p
unfoldable pub run : (ℕ → Bool) → List ℕ → ℕ
run p [] = 0
run p (b ∷ bs) = cond (p b) (suc (run p bs)) 0

-- the bytes up to the last that is not blank; none where all are blank
unfoldable pub to_last_non_blank : List ℕ → List ℕ
to_last_non_blank [] = []
to_last_non_blank (b ∷ bs) = cond (blank (b ∷ bs)) [] (b ∷ to_last_non_blank bs)

-- the bytes of a quoted text
unfoldable pub bytes_of : String → List ℕ
bytes_of empty = []
bytes_of (c then s) = code c ∷ bytes_of s
