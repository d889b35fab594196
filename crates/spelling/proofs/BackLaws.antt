-- The columns of an item, spelled from what they read as, are the columns again. Assumes nothing.
use mathlib.Core.Path.{◌≡◌, refl, sym, ap, ◌∙◌}
use mathlib.Core.Bool.{Bool, true, false, cond, not, ◌&&◌, ◌||◌, beq}
use mathlib.Core.Logic.{⊎_elim}
use mathlib.Core.List.{List}
use Prim.Native.Nat.{ℕ, zero, suc, ◌+◌, ◌-◌, ◌%◌, ◌^◌, ◌<◌}
use native.Mathlib.Nat.{mod-eq_of_lt, mod-eq-sub-mod}
use native.Mathlib.Omega.{arith}
use borrow.Author.Tests.{eqb-true, le-leb, lt-leb}
use lib.Dec.{eqb, leb, lit<}
use lib.IntN.{nat_abs}
use lib.ListN.{length}
use Rattle.text.specs.Bytes.{every, between, either, printable, blank, digits, number, word}
use Rattle.text.proofs.Among.{either_half}
use Rattle.text.proofs.Ranges.{least, greatest}
use Rattle.text.proofs.Below.{passes_below}
use Rattle.text.proofs.Ways.{and_first, and_second, imply}
use Rattle.places.proofs.Gives.{both}
use Rattle.numerals.specs.Numerals.{spelled, spell}
use Rattle.numerals.proofs.Backs.{digits_back, blanks_back, bytes_back, spelled_beyond}
use Rattle.layout.specs.declared.Edition.{Edition}
use Rattle.layout.specs.Page.{element, page, width_of, is_text, is_sign, is_temperature, is_departure}
use Rattle.layout.proofs.Holding.{Holds, empty, holds}
use Rattle.ties.specs.Ties.{place_tie, sign_tie}
use Rattle.ties.specs.Ties as Ties
use Rattle.ties.proofs.Together.{latitude_alike, longitude_alike, value_alike}
use Rattle.reading.specs.declared.Reading.TheVariants.{Missing, Code, Text}
use Rattle.places.proofs.PlaceLaws.{digit_of_place, latitude_of_place, longitude_of_place}
use Rattle.signs.specs.Signed.{signed, negative}
use Rattle.signs.proofs.Signs.{distance}
use Rattle.reading.specs.Readings.{plain, below, kind_of, temperature, departure, place_of}
use Rattle.spelling.specs.Spelled.{sign_digit, amount_numeral, place_numeral, numeral_for}

-- an element by itself
module _ (ed : Edition) (e : ℕ) (t : List ℕ) (long : length t ≡ width_of e) (prints : every printable t ≡ true) where
  pressure : e ≡ 20 → 10 ^ width_of e ≡ 10000
  unfolding element page
  pressure h = rw h

  pub plain_back : spell (width_of e) (numeral_for ed e (plain e t)) ≡ t
  unfolding plain numeral_for
  plain_back = by (blank t) (digits t && not (is_text e)) (eqb e 20 && leb (number t) 999) refl refl refl
    where
      by : (x y z : Bool) → blank t ≡ x → (digits t && not (is_text e)) ≡ y → (eqb e 20 && leb (number t) 999) ≡ z →
          spell (width_of e) (numeral_for ed e (cond x Missing (cond y (Code (cond z (number t + 10000) (number t))) (Text (word t))))) ≡ t
      by true y z p q r = blanks_back (width_of e) t long p
      by false true true p q r =
          ap (λ (k : ℕ). spelled 10 48 (width_of e) (number t + k)) (sym (pressure (eqb-true e 20 (and_first _ _ r)))) ∙
          spelled_beyond 10 48 (lit< tt) (width_of e) (number t) ∙
          digits_back (width_of e) t long (and_first _ _ q)
      by false true false p q r = digits_back (width_of e) t long (and_first _ _ q)
      by false false z p q r = bytes_back (width_of e) t long prints

small_sign : (n : ℕ) → either 0 2 5 7 n ≡ true → n < 8
small_sign n p =
    ⊎_elim (λ a. let l = greatest 0 2 n a in omega arith) (λ a. let l = greatest 5 7 n a in omega arith) (either_half (between 0 2 n) (between 5 7 n) p)

-- the sign that is written is the sign that was read: 1 and 6 stand with no zero
digit_kept : (n m : ℕ) → either 0 2 5 7 n ≡ true → not (Ties.minus n && eqb m 0) ≡ true → sign_digit (negative (signed (below n) m)) (kind_of n) ≡ n
digit_kept n zero p z =
    eqb-true _ _
    (imply (either 0 2 5 7 n && not (Ties.minus n && true)) _
    (passes_below 8 (λ k. not (either 0 2 5 7 k && not (Ties.minus k && true)) || eqb (sign_digit (negative (signed (below k) 0)) (kind_of k)) k) refl n (small_sign n p))
    (both p z))
digit_kept n (suc m) p z =
    eqb-true _ _
    (imply (either 0 2 5 7 n) _ (passes_below 8 (λ k. not (either 0 2 5 7 k) || eqb (sign_digit (negative (signed (below k) (suc m))) (kind_of k)) k) refl n (small_sign n p)) p)

-- a sign and its temperature
module _ (ed : Edition) (s v : List ℕ) (tied : sign_tie s v ≡ true) where
  alike : blank v ≡ blank s
  alike = value_alike s v tied

  no_minus_zero : not (Ties.minus (number s) && eqb (number v) 0) ≡ true
  unfolding sign_tie
  no_minus_zero = and_second (beq (not (blank s)) (not (blank v))) _ tied

  pub sign_back : (e : ℕ) → is_sign e ≡ true → length s ≡ width_of e → Holds (either 0 2 5 7) s → spell (width_of e) (numeral_for ed e (temperature s v)) ≡ s
  unfolding temperature numeral_for amount_numeral
  sign_back e g l (empty a) = rw a (blanks_back (width_of e) s l a)
  sign_back e g l (holds a d p) = rw (a, alike ∙ a, g, digit_kept (number s) (number v) p no_minus_zero) (digits_back (width_of e) s l d)

  pub value_back : (e : ℕ) → is_sign e ≡ false → is_temperature e ≡ true → length v ≡ width_of e → Holds (between 0 999) v →
      spell (width_of e) (numeral_for ed e (temperature s v)) ≡ v
  unfolding temperature numeral_for amount_numeral
  value_back e f g l (empty a) = rw (sym alike ∙ a) (blanks_back (width_of e) v l a)
  value_back e f g l (holds a d p) = rw (sym alike ∙ a, a, f, g, distance (below (number s)) (number v)) (digits_back (width_of e) v l d)

-- element 91
departed : (n : ℕ) → either 0 99 101 199 n ≡ true →
    cond (negative (signed (leb 100 n) (n % 100))) (nat_abs (signed (leb 100 n) (n % 100)) + 100) (nat_abs (signed (leb 100 n) (n % 100))) ≡ n
departed n p = ⊎_elim low high (either_half (between 0 99 n) (between 101 199 n) p)
  where
    low : between 0 99 n ≡ true → cond (negative (signed (leb 100 n) (n % 100))) (nat_abs (signed (leb 100 n) (n % 100)) + 100) (nat_abs (signed (leb 100 n) (n % 100))) ≡ n
    low a = let l = greatest 0 99 n a in rw (lt-leb 100 n (omega arith), mod-eq_of_lt {n = n} {m = 100} (omega arith))

    high : between 101 199 n ≡ true → cond (negative (signed (leb 100 n) (n % 100))) (nat_abs (signed (leb 100 n) (n % 100)) + 100) (nat_abs (signed (leb 100 n) (n % 100))) ≡ n
    high a =
        let l = least 101 199 n a in
        let h = greatest 101 199 n a in
        let less : n - 100 < 100 = omega arith in
        let part : n % 100 ≡ suc (n - 101) = mod-eq-sub-mod {n = n} {m = 100} (omega arith) ∙ mod-eq_of_lt less ∙ (let s : n - 100 ≡ suc (n - 101) = omega arith in s) in
        let sum : suc (n - 101) + 100 ≡ n = omega arith in
        rw (le-leb 100 n (omega arith), part) sum

pub departure_back : (ed : Edition) (t : List ℕ) → length t ≡ width_of 91 → Holds (either 0 99 101 199) t → spell (width_of 91) (numeral_for ed 91 (departure t)) ≡ t
unfolding departure numeral_for amount_numeral is_departure is_sign is_temperature element page
departure_back ed t l (empty a) = rw a (blanks_back (width_of 91) t l a)
departure_back ed t l (holds a d p) = rw (a, departed (number t) p) (digits_back (width_of 91) t l d)

-- column 12, latitude and longitude
module _ (ed : Edition) (q la lo : List ℕ) (tied : place_tie q la lo ≡ true) where
  first_two : blank la ≡ blank q
  first_two = latitude_alike q la lo tied

  last_two : blank lo ≡ blank la
  last_two = longitude_alike q la lo tied

  pub digit_back : (p : ℕ → Bool) → length q ≡ width_of 6 → Holds p q → spell (width_of 6) (numeral_for ed 6 (place_of ed q la lo)) ≡ q
  unfolding place_of numeral_for place_numeral
  digit_back p l (empty a) = rw a (blanks_back (width_of 6) q l a)
  digit_back p l (holds a d t) = rw (a, first_two ∙ a, last_two ∙ first_two ∙ a, digit_of_place ed (number q) (number la) (number lo)) (digits_back (width_of 6) q l d)

  pub latitude_back : (p : ℕ → Bool) → length la ≡ width_of 7 → Holds p la → spell (width_of 7) (numeral_for ed 7 (place_of ed q la lo)) ≡ la
  unfolding place_of numeral_for place_numeral
  latitude_back p l (empty a) = rw (sym first_two ∙ a) (blanks_back (width_of 7) la l a)
  latitude_back p l (holds a d t) =
      rw (sym first_two ∙ a, a, last_two ∙ a, latitude_of_place ed (number q) (number la) (number lo)) (digits_back (width_of 7) la l d)

  pub longitude_back : length lo ≡ width_of 8 → Holds (between 0 1800) lo → spell (width_of 8) (numeral_for ed 8 (place_of ed q la lo)) ≡ lo
  unfolding place_of numeral_for place_numeral
  longitude_back l (empty a) = rw (sym first_two ∙ sym last_two ∙ a) (blanks_back (width_of 8) lo l a)
  longitude_back l (holds a d t) =
      rw (sym first_two ∙ sym last_two ∙ a, sym last_two ∙ a, a, longitude_of_place ed (number q) (number la) (number lo) (greatest 0 1800 (number lo) t)) (digits_back (width_of 8) lo l d)
