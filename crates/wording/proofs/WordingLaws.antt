-- How long a number is in decimal digits, and the loop that counts them. Assumes nothing.
use mathlib.Core.Path.{◌≡◌, refl, sym, ap, ◌∙◌}
use mathlib.Core.Bool.{Bool, true, false}
use mathlib.Core.List.{List, [], ◌∷◌, ◌++◌}
use Prim.Native.Nat.{ℕ, zero, suc, ◌+◌, ◌-◌, ◌/◌, ◌%◌, ◌^◌, ◌<◌, ◌≤◌}
use native.Mathlib.Nat.{zero-add, div-lt_iff_lt-mul, mod-eq_of_lt, pow-suc}
use native.Mathlib.Numerals.{add-one}
use native.Mathlib.Omega.{arith}
use borrow.Author.Tests.{ltb-true, ltb-false, lt-ltb, le-ltb}
use lib.Dec.{ltb, lit<}
use lib.ListN.{length, length-append}
use Rattle.numerals.specs.Numerals.{spelled}
use Rattle.text.specs.Bytes.{bytes_of}
use Rattle.signs.specs.Signed.{negative}
use Rattle.signs.proofs.Signs.{below_zero}
use lib.IntN.{ℤ, pos, nat_abs}
use lib.Signed.{lt_z}
use mir.Syntax.{w64}
use mir.Val.{SFits, to_z, of_z}
use mir.Facts.{to_z-of_z}
use Rattle.wording.specs.Wording.{decimal_from, decimal, numbered, signed_decimal}
use Rattle.wording.specs.declared.sheet.Sheet.{Sheet}
use Rattle.wording.specs.Puts.{Adds}
use Rattle.wording.proofs.PutLaws.{said_as}

-- a number of one digit, and one of more
module _ (k n : ℕ) where
  pub one_digit : n < 10 → decimal_from (suc k) n ≡ (48 + n) ∷ []
  unfolding decimal_from
  one_digit h = rw (lt-ltb n 10 h)

  pub more_digits : 10 ≤ n → decimal_from (suc k) n ≡ decimal_from k (n / 10) ++ (48 + n % 10) ∷ []
  unfolding decimal_from
  more_digits h = rw (le-ltb n 10 h)

  pub one_long : n < 10 → length (decimal_from (suc k) n) ≡ 1
  one_long h = ap length (one_digit h)

  pub more_long : 10 ≤ n → length (decimal_from (suc k) n) ≡ suc (length (decimal_from k (n / 10)))
  more_long h = ap length (more_digits h) ∙ length-append (decimal_from k (n / 10)) _ ∙ add-one _

-- none has more digits than were asked for
short_from : (k n : ℕ) → length (decimal_from k n) ≤ k
unfolding decimal_from
short_from zero n = omega arith
short_from (suc k) n = by (ltb n 10) refl (short_from k (n / 10))
  where
    by : (x : Bool) → ltb n 10 ≡ x → length (decimal_from k (n / 10)) ≤ k → length (decimal_from (suc k) n) ≤ suc k
    by true e h = omega (arith, one_long k n (ltb-true n 10 e))
    by false e h = omega (arith, more_long k n (ltb-false n 10 e))

pub decimal_short : (n : ℕ) → length (decimal n) ≤ 20
unfolding decimal
decimal_short n = short_from 20 n

-- one digit less is left of a number that is divided by ten
pub tenth : (w n : ℕ) → n < 10 ^ suc w → n / 10 < 10 ^ w
tenth w n h = (div-lt_iff_lt-mul {x = n} {y = 10 ^ w} (lit< tt)).1 (rw (pow-suc 10 w) at h)

-- a number below a power of ten has no more digits than the power says
pub decimal_below : (k w n : ℕ) → n < 10 ^ suc w → length (decimal_from k n) ≤ suc w
unfolding decimal_from
decimal_below zero w n h = omega arith
decimal_below (suc k) zero n h = omega (arith, one_long k n (omega arith))
decimal_below (suc k) (suc w) n h = by (ltb n 10) refl (decimal_below k w (n / 10) (tenth (suc w) n h))
  where
    by : (x : Bool) → ltb n 10 ≡ x → length (decimal_from k (n / 10)) ≤ suc w → length (decimal_from (suc k) n) ≤ suc (suc w)
    by true e l = omega (arith, one_long k n (ltb-true n 10 e))
    by false e l = omega (arith, more_long k n (ltb-false n 10 e))

pub small_number : (n : ℕ) → n < 1000 → length (decimal n) ≤ 3
unfolding decimal
small_number n h = decimal_below 20 2 n h

-- the digits of a number are its last digits, as many as it has
spelled_from : (k n : ℕ) → decimal_from k n ≡ spelled 10 48 (length (decimal_from k n)) n
unfolding decimal_from spelled
spelled_from zero n = refl
spelled_from (suc k) n = by (ltb n 10) refl (spelled_from k (n / 10))
  where
    by : (x : Bool) → ltb n 10 ≡ x → decimal_from k (n / 10) ≡ spelled 10 48 (length (decimal_from k (n / 10))) (n / 10) →
        decimal_from (suc k) n ≡ spelled 10 48 (length (decimal_from (suc k) n)) n
    by true e h = let l = ltb-true n 10 e in rw (one_long k n l, one_digit k n l, mod-eq_of_lt l)
    by false e h =
        let l = ltb-false n 10 e in
        rw (more_long k n l, more_digits k n l) (ap (λ (s : List ℕ). s ++ (48 + n % 10) ∷ []) h)

pub decimal_spelled : (n : ℕ) → decimal n ≡ spelled 10 48 (length (decimal n)) n
unfolding decimal
decimal_spelled n = spelled_from 20 n

-- where as many digits are put as a number has, the number is put
pub as_decimal : (width n : ℕ) {before after : Sheet} → width ≡ length (decimal n) → Adds (spelled 10 48 width n) width before after → Adds (decimal n) 20 before after
as_decimal width n e p = said_as (ap (λ (w : ℕ). spelled 10 48 w n) e ∙ sym (decimal_spelled n)) (omega (arith, decimal_short n)) p

-- a number of one digit, and one of two
module _ (n : ℕ) where
  pub one_place : n < 10 → 1 ≡ length (decimal n)
  unfolding decimal
  one_place h = sym (one_long 19 n h)

  pub two_places : 10 ≤ n → n < 100 → 2 ≡ length (decimal n)
  unfolding decimal
  two_places h l = omega (arith, more_long 19 n h, one_long 18 (n / 10) (omega arith))

-- the loop that counts digits: every u64 has at most twenty, each turn counts one of those that `left` has
pub count_starts : (n : ℕ) → n < 2 ^ 64 → (n < 10 ^ (20 - 0)) × (0 + length (decimal_from (20 - 0) n) ≡ length (decimal n))
unfolding decimal
count_starts n h = (omega arith, zero-add _)

module _ (k left : ℕ) (room : k < 20) (below : left < 10 ^ (20 - k)) where
  pub count_turn : 10 ≤ left →
      (k + 1 < 20) × ((left / 10 < 10 ^ (20 - (k + 1))) × (k + 1 + length (decimal_from (20 - (k + 1)) (left / 10)) ≡ k + length (decimal_from (20 - k) left)))
  count_turn h =
      let fuel : 20 - k ≡ suc (20 - (k + 1)) = omega arith in
      let less : left / 10 < 10 ^ (20 - (k + 1)) = tenth (20 - (k + 1)) left (rw fuel at below) in
      (more (20 - (k + 1)) refl, (less, rw fuel (omega (arith, more_long (20 - (k + 1)) left h))))
    where
      more : (f : ℕ) → 20 - (k + 1) ≡ f → k + 1 < 20
      more zero e = let one : 20 - k ≡ 1 = omega arith in absurd (omega (arith, rw one at below))
      more (suc f) e = omega arith

  pub count_end : left < 10 → k + 1 ≡ k + length (decimal_from (20 - k) left)
  count_end h =
      let fuel : 20 - k ≡ suc (20 - (k + 1)) = omega arith in
      rw fuel (omega (arith, one_long (20 - (k + 1)) left h))

-- worked cases: the least, one with a zero inside, the largest u64
decimal_of_0 : decimal 0 ≡ 48 ∷ []
unfolding decimal decimal_from
decimal_of_0 = refl

decimal_of_101 : decimal 101 ≡ 49 ∷ 48 ∷ 49 ∷ []
unfolding decimal decimal_from
decimal_of_101 = refl

decimal_of_most : decimal 18446744073709551615 ≡ 49 ∷ 56 ∷ 52 ∷ 52 ∷ 54 ∷ 55 ∷ 52 ∷ 52 ∷ 48 ∷ 55 ∷ 51 ∷ 55 ∷ 48 ∷ 57 ∷ 53 ∷ 53 ∷ 49 ∷ 54 ∷ 49 ∷ 53 ∷ []
unfolding decimal decimal_from
decimal_of_most = refl

-- a number below zero has its sign before its digits, and another has none
module _ (n : ℤ) {size : ℕ} (e : size ≡ nat_abs n) where
  pub with_sign : negative n ≡ true → numbered (bytes_of "-") size ≡ signed_decimal n
  unfolding signed_decimal
  with_sign b = rw (e, b)

  pub no_sign : negative n ≡ false → decimal size ≡ signed_decimal n
  unfolding signed_decimal
  no_sign b = rw (e, b)

-- the same of a number as the machine holds and tests it
module _ (n : ℤ) (fits : SFits w64 n) {size : ℕ} (e : size ≡ nat_abs (to_z w64 (of_z w64 n))) where
  pub with_sign_held : lt_z (to_z w64 (of_z w64 n)) (pos 0) ≡ true → numbered (bytes_of "-") size ≡ signed_decimal n
  with_sign_held b = with_sign n (rw (to_z-of_z fits) at e) (sym (below_zero n fits) ∙ b)

  pub no_sign_held : lt_z (to_z w64 (of_z w64 n)) (pos 0) ≡ false → decimal size ≡ signed_decimal n
  no_sign_held b = no_sign n (rw (to_z-of_z fits) at e) (sym (below_zero n fits) ∙ b)
