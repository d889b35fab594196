-- A number spelled in some columns: the last `width` of its digits in a base whose nought is the byte `nought`. Assumes nothing.
use Rattle.std.specs.Prelude.{ℕ, zero, suc, ◌+◌, ◌/◌, ◌%◌, List, [], ◌∷◌, ◌++◌, length, take, drop}
use Rattle.numerals.specs.declared.Numeral.{Numeral}

unfoldable pub spelled : ℕ → ℕ → ℕ → ℕ → List ℕ
spelled base nought zero n = []
spelled base nought (suc width) n = spelled base nought width (n / base) ++ (nought + n % base) ∷ []

-- the three ways in which columns are filled: digits, bytes of any kind, and blanks (the one digit of base 1)
abbrev pub in_digits : ℕ → Numeral
in_digits n = record { base = 10; nought = 48; number = n }

abbrev pub in_bytes : ℕ → Numeral
in_bytes n = record { base = 256; nought = 0; number = n }

abbrev pub in_blanks : Numeral
in_blanks = record { base = 1; nought = 32; number = 0 }

abbrev pub spell : ℕ → Numeral → List ℕ
spell width m = spelled m.base m.nought width m.number

-- some bytes with others in the place of those from `at` on
abbrev pub placed : ℕ → List ℕ → List ℕ → List ℕ
placed at t before = take at before ++ t ++ drop (at + length t) before
