-- Request 13, column 12: which digit comes home, over all places. It is the lowest of its edition for the place, wherever it has been; and it is the one that set out, but on
-- the equator and where the longitude says 0.0, 90.0 or 180.0. Assumes nothing.
use mathlib.Core.Path.{◌≡◌, refl, sym, ap, ◌∙◌}
use mathlib.Core.Logic.{◌⊎◌, inl, inr}
use mathlib.Core.Bool.{Bool, true, false, not}
use Prim.Native.Nat.{ℕ, ◌+◌, ◌-◌, ◌≤◌}
use native.Mathlib.Omega.{arith}
use borrow.Author.Tests.{eqb-true, eqb-false}
use lib.Dec.{eqb}
use Rattle.text.proofs.First.{same_first}
use Rattle.layout.specs.declared.Edition.{Edition}
use Rattle.places.specs.Column12.{same_place, keeps_tie, may_stand, suits, lowest_digit}
use Rattle.places.specs.Plain.{Plain}
use Rattle.places.proofs.PlainLaws.{only_digit}
use Rattle.places.proofs.Demand3Digits.{same_numbers, digit_found}

-- two digits that give one place have the same lowest digit in every edition
module _ (from to : Edition) (d c latitude longitude : ℕ) (same : same_place from d to c latitude longitude ≡ true) where
  suited_alike : (ed : Edition) (k : ℕ) → suits from ed d latitude longitude k ≡ suits to ed c latitude longitude k
  unfolding suits
  suited_alike ed k = let n = same_numbers from to d c latitude longitude same in rw (n.0, n.1)

  pub same_lowest : (ed : Edition) → lowest_digit from ed d latitude longitude ≡ lowest_digit to ed c latitude longitude
  unfolding lowest_digit
  same_lowest ed =
      same_first (λ b. not (suits from ed d latitude longitude (b - 48))) (λ b. not (suits to ed c latitude longitude (b - 48))) (λ b. ap not (suited_alike ed (b - 48))) 48 10

-- where more than one digit of an edition may give the place: the columns of the latitude say 000, or those of the longitude 0000, 0900 or 1800
pub data Edge (latitude longitude : ℕ) : Type 0 where
  equator : latitude ≡ 0 → Edge latitude longitude
  greenwich : longitude ≡ 0 → Edge latitude longitude
  ninetieth : longitude ≡ 900 → Edge latitude longitude
  date_line : longitude ≡ 1800 → Edge latitude longitude

edge_or_plain : (latitude longitude : ℕ) → longitude ≤ 1800 → Edge latitude longitude ⊎ Plain latitude longitude
edge_or_plain latitude longitude h = by (eqb latitude 0) (eqb longitude 0) (eqb longitude 900) (eqb longitude 1800) refl refl refl refl
  where
    by : (w x y z : Bool) → eqb latitude 0 ≡ w → eqb longitude 0 ≡ x → eqb longitude 900 ≡ y → eqb longitude 1800 ≡ z → Edge latitude longitude ⊎ Plain latitude longitude
    by true x y z p q r s = inl (equator (eqb-true _ _ p))
    by false true y z p q r s = inl (greenwich (eqb-true _ _ q))
    by false false true z p q r s = inl (ninetieth (eqb-true _ _ r))
    by false false false true p q r s = inl (date_line (eqb-true _ _ s))
    by false false false false p q r s =
        inr (record { off_equator = eqb-false _ _ p; off_meridian = eqb-false _ _ q; off_ninety = eqb-false _ _ r; below = omega (arith, eqb-false longitude 1800 s) })

-- there and back: digit d of the edition `from` is recast to the edition `to`, and what stands there is recast back
module _ (from to : Edition) (d latitude longitude : ℕ) where
  abbrev pub home : ℕ
  home = lowest_digit to from (digit_found from to d latitude longitude).digit latitude longitude

  -- what comes home is the lowest digit of its own edition for the place
  pub home_lowest : home ≡ lowest_digit from from d latitude longitude
  home_lowest = let f = digit_found from to d latitude longitude in sym (same_lowest from to d f.digit latitude longitude f.same from)

  -- so of a digit that may stand and keeps tie 2, as every accepted record's does, another comes home on an edge alone
  pub another_only : d ≤ 9 → may_stand from d ≡ true → keeps_tie from d longitude ≡ true → longitude ≤ 1800 → (home ≡ 48 + d → ⊥) → Edge latitude longitude
  another_only small stands tied h n = by (edge_or_plain latitude longitude h)
    where
      by : Edge latitude longitude ⊎ Plain latitude longitude → Edge latitude longitude
      by (inl e) = e
      by (inr p) = absurd (n (home_lowest ∙ only_digit latitude longitude p from d small stands tied))
