-- Which texts a legal form allows. Assumes nothing.
use Rattle.std.specs.Prelude.{ℕ, List, [], ◌∷◌, Bool, false, cond, ◌&&◌, ◌||◌, eqb, leb, drop, Option, Some, None}
use Rattle.text.specs.Bytes.{every, between, either, printable, is_digit, is_letter, blank, digits, number, number_from, run}
use Rattle.text.specs.declared.LegalTexts.{LegalTexts}
use Rattle.text.specs.declared.LegalTexts.TheVariants.{Nothing, Printable, Letters, CallSign, DigitOr, Within, Either, OneOf}

-- a number that is one of four
abbrev pub among : ℕ → ℕ → ℕ → ℕ → ℕ → Bool
among a b c d n = eqb n a || eqb n b || eqb n c || eqb n d

-- one of some numbers
unfoldable pub member : ℕ → List ℕ → Bool
member n [] = false
member n (x ∷ xs) = eqb n x || member n xs

-- a character of a call sign: 0..9, A..Z
abbrev pub in_call_sign : ℕ → Bool
in_call_sign b = is_digit b || is_letter b

-- a digit, or the byte x in its place
abbrev pub digit_or : ℕ → ℕ → Bool
digit_or x b = is_digit b || between x x b

-- three or more characters of a call sign, left, and blanks only after them
abbrev pub call_sign : List ℕ → Bool
call_sign t = leb 3 (run in_call_sign t) && blank (drop (run in_call_sign t) t)

-- the text t is one of these texts
unfoldable pub allows : LegalTexts → List ℕ → Bool
allows Nothing t = false
allows Printable t = every printable t
allows Letters t = every is_letter t
allows CallSign t = call_sign t
allows (DigitOr x) t = every (digit_or x) t
allows (Within a b) t = digits t && between a b (number t)
allows (Either a b c d) t = digits t && either a b c d (number t)
allows (OneOf a b c d) t = digits t && among a b c d (number t)

-- what some bytes say after digits that said n: the number where all of them are digits
unfoldable pub digits_from : ℕ → List ℕ → Option ℕ
digits_from n t = cond (digits t) (Some (number_from n t)) None

abbrev pub digits_in : List ℕ → Option ℕ
digits_in t = digits_from 0 t
