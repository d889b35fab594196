-- Numbers as a report says them: their decimal digits, with no zeros in front and '-' before one below zero. Assumes nothing.
use Rattle.std.specs.Prelude.{ℕ, zero, suc, ◌+◌, ◌/◌, ◌%◌, cond, List, [], ◌∷◌, ◌++◌, ltb, ℤ, nat_abs}
use Rattle.text.specs.Bytes.{bytes_of}
use Rattle.signs.specs.Signed.{negative}

-- at most so many of the last digits of a number, and no zeros in front of them
unfoldable pub decimal_from : ℕ → ℕ → List ℕ
decimal_from zero n = []
decimal_from (suc k) n = cond (ltb n 10) ((48 + n) ∷ []) (decimal_from k (n / 10) ++ (48 + n % 10) ∷ [])

-- the decimal digits of a number below 10 ^ 20, which every u64 is; '0' for 0
unfoldable pub decimal : ℕ → List ℕ
decimal n = decimal_from 20 n

-- a number with a sign
unfoldable pub signed_decimal : ℤ → List ℕ
signed_decimal a = cond (negative a) (bytes_of "-") [] ++ decimal (nat_abs a)

-- a word and a number after it
abbrev pub numbered : List ℕ → ℕ → List ℕ
numbered word n = word ++ decimal n

-- what ends a line
unfoldable pub line_end : List ℕ
line_end = bytes_of "\n"
