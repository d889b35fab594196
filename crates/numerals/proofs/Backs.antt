-- A text that is spelled from what it says is the text again: digits, blanks and bytes of any kind. Assumes nothing.
use mathlib.Core.Path.{◌≡◌, refl, sym, ap, ◌∙◌}
use mathlib.Core.Bool.{true}
use mathlib.Core.List.{List, [], ◌∷◌}
use Prim.Native.Nat.{ℕ, zero, suc, ◌+◌, ◌-◌, ◌*◌, ◌/◌, ◌^◌, ◌<◌, ◌≤◌}
use native.Mathlib.Nat.{pow-suc, add-mul-div_right, add-mul-mod_self_right}
use native.Mathlib.Omega.{arith}
use lib.Dec.{lit<}
use lib.ListN.{length, get_or}
use Rattle.text.specs.Bytes.{every, between, printable, is_digit, blank, digits, value_from, number, word}
use Rattle.text.proofs.Every.{every_at}
use Rattle.text.proofs.Ranges.{least, greatest}
use Rattle.text.proofs.Ways.{and_first, and_second}
use Rattle.numerals.specs.Numerals.{spelled, spell, in_digits, in_bytes, in_blanks}
use Rattle.numerals.proofs.Spellings.{value_spelled}

-- a byte from lo to hi is a digit of a base that has them
digit_of_lem : (lo hi nought base b : ℕ) → nought ≤ lo → hi < nought + base → between lo hi b ≡ true → (nought ≤ b) × (b < nought + base)
digit_of_lem lo hi nought base b p q e =
    let low = least lo hi b e in
    let high = greatest lo hi b e in
    (omega arith, omega arith)

-- blanks say nought
blanks_say : (n : ℕ) (t : List ℕ) → blank t ≡ true → value_from 1 32 n t ≡ n
unfolding value_from every
blanks_say n [] e = refl
blanks_say n (b ∷ t) e =
    let d = digit_of_lem 32 32 32 1 b (omega arith) (omega arith) (and_first _ _ e) in
    let same : n * 1 + (b - 32) ≡ n = omega arith in
    blanks_say (n * 1 + (b - 32)) t (and_second (between 32 32 b) _ e) ∙ same

module _ (w : ℕ) (t : List ℕ) (long : length t ≡ w) where
  pub digits_back : digits t ≡ true → spell w (in_digits (number t)) ≡ t
  digits_back e = value_spelled 10 48 (lit< tt) w t long (λ i h. digit_of_lem 48 57 48 10 (get_or t i 0) (omega arith) (omega arith) (every_at is_digit t e i (omega arith)))

  pub blanks_back : blank t ≡ true → spell w in_blanks ≡ t
  blanks_back e =
      ap (spelled 1 32 w) (sym (blanks_say 0 t e)) ∙
      value_spelled 1 32 (lit< tt) w t long (λ i h. digit_of_lem 32 32 32 1 (get_or t i 0) (omega arith) (omega arith) (every_at (between 32 32) t e i (omega arith)))

  pub bytes_back : every printable t ≡ true → spell w (in_bytes (word t)) ≡ t
  bytes_back e = value_spelled 256 0 (lit< tt) w t long (λ i h. digit_of_lem 32 126 0 256 (get_or t i 0) (omega arith) (omega arith) (every_at printable t e i (omega arith)))

-- a digit in front of the columns is not spelled
pub spelled_beyond : (base nought : ℕ) → 0 < base → (w n : ℕ) → spelled base nought w (n + base ^ w) ≡ spelled base nought w n
unfolding spelled
spelled_beyond base nought p zero n = refl
spelled_beyond base nought p (suc w) n =
    rw (pow-suc base w, add-mul-div_right n (base ^ w) p, add-mul-mod_self_right n (base ^ w) base, spelled_beyond base nought p w (n / base))
