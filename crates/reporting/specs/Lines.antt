-- The lines of an input: a line ends at byte 10 alone, and what stands after the last one is a line where it is not empty. Assumes nothing.
use Rattle.std.specs.Prelude.{ℕ, ◌+◌, cond, List, [], ◌∷◌, ◌++◌, eqb, drop}
use Rattle.octets.specs.Octets.{index_of}

-- the last line of an input that ends without byte 10
abbrev pub last_line : List ℕ → List (List ℕ)
last_line [] = []
last_line (b ∷ held) = (b ∷ held) ∷ []

-- the lines, from what is held of the first of them and what is still to come
unfoldable pub lines_from : List ℕ → List ℕ → List (List ℕ)
lines_from held [] = last_line held
lines_from held (b ∷ rest) = cond (eqb b 10) (held ∷ lines_from [] rest) (lines_from (held ++ b ∷ []) rest)

abbrev pub lines_of : List ℕ → List (List ℕ)
lines_of input = lines_from [] input

-- where the line ends that a place of a piece lies in: at the next byte 10 from there on, or at the end of the piece
abbrev pub next_end : List ℕ → ℕ → ℕ
next_end piece at = at + index_of 10 (drop at piece)
