-- The lowest place at which a test fails. Columns, elements and ties are all counted from 1, so 0 says that there is none. Assumes nothing.
use Rattle.std.specs.Prelude.{ℕ, zero, suc, Bool, cond, Option, Some, None}

-- of the n places from k on, the lowest at which p fails; 0 where it passes at all of them
unfoldable pub first_from : (ℕ → Bool) → ℕ → ℕ → ℕ
first_from p k zero = 0
first_from p k (suc n) = cond (p k) (first_from p (suc k) n) k

-- of the places 1 to n
abbrev pub first_of : ℕ → (ℕ → Bool) → ℕ
first_of n p = first_from p 1 n

-- a place as a call answers it: none where it is 0
abbrev pub nonzero : ℕ → Option ℕ
nonzero zero = None
nonzero (suc n) = Some (suc n)
