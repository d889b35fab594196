-- The small tests of the glance: of a byte, and of some bytes as one number. They are the code's own. Assumes nothing.
use Rattle.std.specs.Prelude.{ℕ, ◌+◌, ◌*◌, List, Bool, cond, not, ◌&&◌, ◌||◌, eqb, leb, get_or}
use Rattle.text.specs.LegalTexts.{among}

-- a number that is at most `top` and does not stand in the gap from `gap` on, up to `end`
unfoldable pub in_limit : ℕ → ℕ → ℕ → ℕ → Bool
in_limit top gap end n = leb n top && (not (leb gap n) || leb end n)

-- none of two bytes
unfoldable pub neither : ℕ → ℕ → ℕ → Bool
neither x y b = not (eqb b x) && not (eqb b y)

-- four bytes as one number, the last highest
unfoldable pub last_highest : List ℕ → ℕ → ℕ
last_highest xs at = get_or xs at 0 + get_or xs (at + 1) 0 * 256 + get_or xs (at + 2) 0 * 65536 + get_or xs (at + 3) 0 * 16777216

-- neither 1000 nor 6000, the last byte highest
unfoldable pub plus_zero : ℕ → Bool
plus_zero n = not (eqb n 808464433) && not (eqb n 808464438)

-- the last digits that column 1 takes: 3 every one, 4 also a 5, and each a 0
unfoldable pub top_digit : ℕ → ℕ
top_digit format = cond (eqb format 51) 57 48

unfoldable pub half_digit : ℕ → ℕ
half_digit format = cond (eqb format 53) 48 53

unfoldable pub last_fits : ℕ → ℕ → ℕ → Bool
last_fits top half b = leb b top || eqb b half

-- an element needs another: b is blank, or w is not
unfoldable pub needs : ℕ → ℕ → Bool
needs b w = eqb b 32 || not (eqb w 32)

-- a day that every year has in that month, by the bytes of both: 28 and below in every month, 29 and 30 in each that is not February, 31 in each that is also not
-- April, June, September or November
unfoldable pub common : ℕ → ℕ → Bool
common month day =
    leb day 12856 || (not (eqb month 12338) && (leb day 13104 || ((not (eqb month 12340) && not (eqb month 12342)) && (not (eqb month 12345) && not (eqb month 12593)))))

-- octants 1, 2, 6, 7 reach 0900, and others do not pass it
abbrev pub far : ℕ → Bool
far octant = among 49 50 54 55 octant

unfoldable pub octant_near : ℕ → ℕ → Bool
octant_near octant longitude = cond (far octant) (leb 809054256 longitude) (leb longitude 809054256)
