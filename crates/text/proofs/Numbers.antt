-- A loop over the digits of a number: what is left of `number_from`, and how large the number can grow. Assumes nothing.
use mathlib.Core.Path.{◌≡◌}
use mathlib.Core.Bool.{Bool, true, false, cond, ◌&&◌}
use mathlib.Core.List.{List}
use Prim.Native.Nat.{ℕ, ◌+◌, ◌-◌, ◌*◌, ◌^◌, ◌<◌, ◌≤◌}
use native.Mathlib.Nat.{pow-succ', pow-le-pow_right}
use native.Mathlib.Numerals.{add-one}
use native.Mathlib.Omega.{arith}
use lib.Dec.{lit<}
use lib.ListN.{length, get_or, drop, drop_of_length-le}
use lib.Seq.{drop-cons}
use Rattle.text.specs.Bytes.{value_from, number, digits}
use Rattle.text.specs.LegalTexts.{digits_from, digits_in}
use Rattle.std.proofs.Common.{Option, Some, None, MatchOption, IfSome, is_some, ap}

-- one byte more of a value in any base, and no more
module _ (base nought n : ℕ) (xs : List ℕ) (i : ℕ) where
  pub more : i < length xs → value_from base nought n (drop i xs) ≡ value_from base nought (n * base + (get_or xs i 0 - nought)) (drop (i + 1) xs)
  unfolding value_from
  more h = rw (add-one, drop-cons xs i 0 h)

  pub no_more : length xs ≤ i → value_from base nought n (drop i xs) ≡ n
  unfolding value_from
  no_more h = rw (drop_of_length-le xs h)

-- 23 * 10 ^ i is above what i bytes, digits or not, can say: a byte adds at most 255 - 48
pub below_more : (n i d : ℕ) → n + 23 ≤ 23 * 10 ^ i → d ≤ 207 → n * 10 + d + 23 ≤ 23 * 10 ^ (i + 1)
below_more n i d h k = rw (add-one, pow-succ') (omega arith)

pub below_seven : (n i : ℕ) → n + 23 ≤ 23 * 10 ^ i → i ≤ 7 → n < 230000000
below_seven n i h k = omega (arith, pow-le-pow_right {n = 10} (lit< tt) k)

-- what some bytes say, asked first whether they are digits
pub said : (t : List ℕ) (d : Bool) (r : Option ℕ) (Q : ℕ → Type 0) → d ≡ digits t → is_some r ≡ d → IfSome r Q → ((n : ℕ) → Q n → n ≡ number t) → r ≡ digits_in t
unfolding digits_from
said t d (Some n) Q e f h g = rw (← e, ← f) (ap Some (g n h))
said t d None Q e f h g = rw (← e, ← f)

-- a test of the number that some bytes say, if they are digits
pub if_digits : (p : ℕ → Bool) (t : List ℕ) (m : Option ℕ) (r : Bool) (Q : ℕ → Type 0) → m ≡ digits_in t → MatchOption m (r ≡ false) Q → ((n : ℕ) → Q n → r ≡ p n) → r ≡ (digits t && p (number t))
unfolding digits_from
if_digits p t m r Q e h g = by (digits t) (rw e at h)
  where
    by : (d : Bool) → MatchOption (cond d (Some (number t)) None) (r ≡ false) Q → r ≡ (d && p (number t))
    by true f = g _ f
    by false f = f
