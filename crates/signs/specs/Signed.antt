-- A number with its sign. Assumes nothing.
use Rattle.std.specs.Prelude.{ℕ, Bool, true, false, cond, eqb, ℤ, pos, negsuc, neg_ℤ}

-- a number with its sign
abbrev pub signed : Bool → ℕ → ℤ
signed below n = cond below (neg_ℤ (pos n)) (pos n)

abbrev pub negative : ℤ → Bool
negative (pos n) = false
negative (negsuc n) = true

-- two numbers are the same
abbrev pub same_signed : ℤ → ℤ → Bool
same_signed (pos m) (pos n) = eqb m n
same_signed (negsuc m) (negsuc n) = eqb m n
same_signed (pos m) (negsuc n) = false
same_signed (negsuc m) (pos n) = false
