-- Spelling and reading undo each other, once for every base. Assumes nothing.
use mathlib.Core.Path.{◌≡◌, refl, sym, ap, ◌∙◌}
use mathlib.Core.Bool.{true}
use mathlib.Core.List.{List, [], ◌∷◌, ◌++◌, append_assoc, append-nil}
use Prim.Native.Nat.{ℕ, zero, suc, ◌+◌, ◌-◌, ◌*◌, ◌/◌, ◌%◌, ◌^◌, ◌<◌, ◌≤◌}
use native.Mathlib.Nat.{add-zero, div-add-mod', div-lt_iff_lt-mul, add-sub_cancel_left, not-suc-le-zero, pow-suc, pow-zero, pow-le-pow_right}
use native.Mathlib.Numerals.{add-one}
use native.Mathlib.Omega.{arith}
use lib.Dec.{lit<}
use lib.Arith.{digits_div, digits_mod}
use lib.ListN.{length, get_or, take, drop, set, length-append, take-append-drop}
use lib.Seq.{take-suc, take_all, get_or-take, take-set-le, set_split, length-take-le, drop_at}
use Rattle.text.specs.Bytes.{every, between, blank, value_from}
use Rattle.text.proofs.Ways.{and_first, and_second}
use Rattle.numerals.specs.Numerals.{spelled, spell, in_blanks, placed}

module _ (base nought : ℕ) where
  -- a value goes on from where it stands
  value_append : (n : ℕ) (s t : List ℕ) → value_from base nought n (s ++ t) ≡ value_from base nought (value_from base nought n s) t
  unfolding value_from
  value_append n [] t = refl
  value_append n (b ∷ s) t = value_append (n * base + (b - nought)) s t

  pub value_last : (s : List ℕ) (b : ℕ) → value_from base nought 0 (s ++ b ∷ []) ≡ value_from base nought 0 s * base + (b - nought)
  unfolding value_from
  value_last s b = value_append 0 s (b ∷ [])

  pub spelled_length : (w n : ℕ) → length (spelled base nought w n) ≡ w
  unfolding spelled
  spelled_length zero n = refl
  spelled_length (suc w) n = length-append (spelled base nought w (n / base)) _ ∙ rw (spelled_length w (n / base), add-one w)

  module _ (positive : 0 < base) where
    -- what is spelled with room enough reads as it was
    pub spelled_value : (w n : ℕ) → n < base ^ w → value_from base nought 0 (spelled base nought w n) ≡ n
    unfolding spelled value_from
    spelled_value zero n h = omega (arith, pow-zero base)
    spelled_value (suc w) n h =
        let l : n / base < base ^ w = (div-lt_iff_lt-mul {x = n} {y = base ^ w} positive).1 (rw (pow-suc base w) at h) in
        value_last (spelled base nought w (n / base)) (nought + n % base) ∙
        rw (spelled_value w (n / base) l, add-sub_cancel_left nought (n % base)) (div-add-mod' n base)

    -- bytes that are digits of the base are spelled as they were read
    pub value_spelled : (w : ℕ) (t : List ℕ) → length t ≡ w → ((i : ℕ) → i < w → (nought ≤ get_or t i 0) × (get_or t i 0 < nought + base)) →
        spelled base nought w (value_from base nought 0 t) ≡ t
    unfolding spelled value_from
    value_spelled zero [] e f = refl
    value_spelled zero (b ∷ t) e f = absurd (omega arith)
    value_spelled (suc w) t e f =
        let whole : t ≡ take w t ++ get_or t w 0 ∷ [] = sym (take_all (suc w) t (omega arith)) ∙ take-suc t w 0 (omega arith) in
        let said : value_from base nought 0 t ≡ value_from base nought 0 (take w t) * base + (get_or t w 0 - nought) =
        ap (value_from base nought 0) whole ∙ value_last (take w t) (get_or t w 0) in
        let digit = f w (omega arith) in
        let low : get_or t w 0 - nought < base = omega arith in
        let front : spelled base nought w (value_from base nought 0 (take w t)) ≡ take w t =
        value_spelled w (take w t) (length-take-le w t (omega arith)) (λ i h. rw (get_or-take w t i 0 h) (f i (omega arith))) in
        let back : nought + (get_or t w 0 - nought) ≡ get_or t w 0 = omega arith in
        rw (said, digits_div (value_from base nought 0 (take w t)) low, digits_mod (value_from base nought 0 (take w t)) low, front, back) (sym whole)

-- one byte stored before those that are still to be placed
module _ (at : ℕ) (s before : List ℕ) (b : ℕ) where
  pub place_last : at + length s < length before → placed at s (set before (at + length s) b) ≡ placed at (s ++ b ∷ []) before
  place_last h =
      let tail : drop (at + length s) (set before (at + length s) b) ≡ b ∷ drop (suc (at + length s)) before =
      ap (drop (at + length s)) (set_split before (at + length s) b h) ∙
      drop_at (take (at + length s) before) (b ∷ drop (suc (at + length s)) before) (at + length s) (length-take-le (at + length s) before (omega arith)) in
      let longer : at + length (s ++ b ∷ []) ≡ suc (at + length s) = omega (arith, length-append s (b ∷ [])) in
      rw (take-set-le at before (at + length s) b (omega arith), tail, longer) (simp append_assoc)

-- a turn of the loop that spells, its end, and its beginning
module _ (base nought at : ℕ) where
  pub put_turn : (k n : ℕ) (buffer : List ℕ) → 0 < k → at + k ≤ length buffer →
      placed at (spelled base nought (k - 1) (n / base)) (set buffer (at + (k - 1)) (nought + n % base)) ≡ placed at (spelled base nought k n) buffer
  unfolding spelled
  put_turn zero n buffer h l = absurd (not-suc-le-zero h)
  put_turn (suc k) n buffer h l =
      let one : suc k - 1 ≡ k = omega arith in
      let long = spelled_length base nought k (n / base) in
      rw one
      (ap (λ (i : ℕ). placed at (spelled base nought k (n / base)) (set buffer (at + i) (nought + n % base))) (sym long) ∙
      place_last at (spelled base nought k (n / base)) buffer (nought + n % base) (omega arith))

  pub put_end : (k n : ℕ) (buffer : List ℕ) → k ≤ 0 → buffer ≡ placed at (spelled base nought k n) buffer
  unfolding spelled
  put_end zero n buffer h = sym (rw (append-nil, add-zero) (take-append-drop at buffer))
  put_end (suc k) n buffer h = absurd (not-suc-le-zero h)

-- what six bytes can say, before a seventh is taken
pub seven_bytes : (n i : ℕ) → n < 256 ^ i → i < 7 → n < 281474976710656
seven_bytes n i h k = let l : i ≤ 6 = omega arith in omega (arith, pow-le-pow_right {n = 256} (lit< tt) l)

pub byte_more : (n i b : ℕ) → n < 256 ^ i → b < 256 → n * 256 + b < 256 ^ (i + 1)
byte_more n i b h k = rw (add-one, pow-suc) (omega arith)

-- blanks are blank
pub blanks_blank : (n : ℕ) → blank (spell n in_blanks) ≡ true
unfolding spelled every
blanks_blank zero = refl
blanks_blank (suc n) = every_end (spelled 1 32 n 0) (blanks_blank n)
  where
    every_end : (t : List ℕ) → blank t ≡ true → blank (t ++ 32 ∷ []) ≡ true
    every_end [] e = refl
    every_end (b ∷ t) e = let h : between 32 32 b ≡ true = and_first _ _ e in rw h (every_end t (and_second (between 32 32 b) _ e))
