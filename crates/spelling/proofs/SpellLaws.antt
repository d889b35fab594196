-- What is spelled is spelled with digits that fit a byte. Assumes nothing.
use mathlib.Core.Bool.{Bool, true, false, cond}
use Prim.Native.Nat.{ℕ, ◌+◌, ◌≤◌, ◌<◌}
use lib.Dec.{eqb, lit≤, lit<}
use lib.IntN.{ℤ, nat_abs}
use Rattle.numerals.specs.declared.Numeral.{Numeral}
use Rattle.numerals.specs.Numerals.{in_digits, in_blanks}
use Rattle.layout.specs.declared.Edition.{Edition}
use Rattle.layout.specs.Page.{is_departure, is_sign, is_temperature}
use Rattle.places.specs.declared.Place.{Place}
use Rattle.places.specs.Places.{latitude_figure, longitude_figure}
use Rattle.reading.specs.declared.Kind.{Kind}
use Rattle.reading.specs.declared.Reading.{Reading}
use Rattle.reading.specs.declared.Reading.TheVariants.{Missing, Code, Text, Amount, At}
use Rattle.signs.specs.Signed.{negative}
use Rattle.spelling.specs.Spelled.{sign_digit, amount_numeral, place_numeral, numeral_for}

abbrev pub Spellable : Numeral → Type 0
Spellable m = (0 < m.base) × (m.nought + m.base ≤ 256)

-- one of three numerals in digits, or blanks
one_of_three : (x y z : Bool) (m n o : ℕ) → Spellable (cond x (in_digits m) (cond y (in_digits n) (cond z (in_digits o) in_blanks)))
one_of_three true y z m n o = (lit< tt, lit≤ tt)
one_of_three false true z m n o = (lit< tt, lit≤ tt)
one_of_three false false true m n o = (lit< tt, lit≤ tt)
one_of_three false false false m n o = (lit< tt, lit≤ tt)

pub amount_fits : (e : ℕ) (a : ℤ) (k : Kind) → Spellable (amount_numeral e a k)
unfolding amount_numeral
amount_fits e a k = one_of_three (is_sign e) (is_temperature e) (is_departure e) (sign_digit (negative a) k) (nat_abs a) (cond (negative a) (nat_abs a + 100) (nat_abs a))

pub place_fits : (ed : Edition) (e : ℕ) (p : Place) → Spellable (place_numeral ed e p)
unfolding place_numeral
place_fits ed e p = one_of_three (eqb e 6) (eqb e 7) (eqb e 8) p.digit (latitude_figure p) (longitude_figure ed p)

pub numeral_fits : (ed : Edition) (e : ℕ) (r : Reading) → Spellable (numeral_for ed e r)
unfolding numeral_for
numeral_fits ed e Missing = (lit< tt, lit≤ tt)
numeral_fits ed e (Code n) = (lit< tt, lit≤ tt)
numeral_fits ed e (Text n) = (lit< tt, lit≤ tt)
numeral_fits ed e (Amount a k) = amount_fits e a k
numeral_fits ed e (At p) = place_fits ed e p
