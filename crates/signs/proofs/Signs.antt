-- A number and its sign, two numbers that are the same, and a number and its bits. Assumes nothing.
use mathlib.Core.Path.{◌≡◌, refl, sym, ap, ◌∙◌}
use mathlib.Core.Bool.{Bool, true, false, true≢false}
use Prim.Native.Nat.{ℕ, zero, suc, zero-le}
use borrow.Author.Tests.{eq-eqb, eqb-true, le-ltb}
use lib.IntN.{ℤ, pos, negsuc, nat_abs}
use lib.Signed.{lt_z}
use mir.Syntax.{w64}
use mir.Val.{SFits, to_z, of_z}
use mir.Facts.{to_z-of_z}
use Rattle.signs.specs.Signed.{signed, negative, same_signed}

-- a number is its sign and its distance from zero, and that is the distance of what they make
pub rejoined : (a : ℤ) → signed (negative a) (nat_abs a) ≡ a
rejoined (pos n) = refl
rejoined (negsuc n) = refl

pub distance : (b : Bool) (n : ℕ) → nat_abs (signed b n) ≡ n
distance true zero = refl
distance true (suc n) = refl
distance false n = refl

-- two numbers are equal exactly where they are the same
pub signed_equal : (a b : ℤ) → same_signed a b ≡ true → a ≡ b
signed_equal (pos m) (pos n) e = ap pos (eqb-true m n e)
signed_equal (negsuc m) (negsuc n) e = ap negsuc (eqb-true m n e)
signed_equal (pos m) (negsuc n) e = absurd (true≢false (sym e))
signed_equal (negsuc m) (pos n) e = absurd (true≢false (sym e))

pub equal_signed : (a b : ℤ) → a ≡ b → same_signed a b ≡ true
equal_signed a b e = rw e (by b)
  where
    by : (z : ℤ) → same_signed z z ≡ true
    by (pos n) = eq-eqb n n refl
    by (negsuc n) = eq-eqb n n refl

-- a number of 64 bits is what the machine's bits of it say
abbrev back : ℤ → ℤ
back z = to_z w64 (of_z w64 z)

module _ (a : ℤ) (f : SFits w64 a) where
  pub itself : back a ≡ a
  itself = to_z-of_z f

  pub below_zero : lt_z (back a) (pos 0) ≡ negative a
  below_zero = ap (λ (z : ℤ). lt_z z (pos 0)) itself ∙ by a
    where
      by : (z : ℤ) → lt_z z (pos 0) ≡ negative z
      by (pos n) = le-ltb n 0 zero-le
      by (negsuc n) = refl

pub same_back : (a b : ℤ) → SFits w64 a → SFits w64 b → same_signed (back a) (back b) ≡ same_signed a b
same_back a b f g = rw (itself a f, itself b g)
