-- What each way through the code of column 12 says of the definitions. Assumes nothing.
use mathlib.Core.Path.{◌≡◌, refl, sym, ap, ◌∙◌}
use mathlib.Core.Bool.{Bool, true, false, not, ◌&&◌, beq, true≢false}
use mathlib.Core.List.{List, [], ◌∷◌}
use Prim.Native.Nat.{ℕ, zero, suc, ◌+◌, ◌-◌, ◌*◌, ◌≤◌}
use native.Mathlib.Omega.{arith}
use borrow.Author.Tests.{eq-eqb, le-leb}
use Rattle.text.specs.First.{first_from}
use Rattle.text.specs.Bytes.{either, every, digits, number, value_from}
use Rattle.text.specs.LegalTexts.{among, allows}
use Rattle.text.proofs.First.{end, off, on}
use Rattle.layout.specs.declared.Edition.{Edition}
use Rattle.layout.specs.declared.Edition.TheVariants.{One, Three, Four}
use Rattle.layout.specs.Page.{element, page, legal_texts}
use Rattle.signs.specs.Signed.{signed, same_signed}
use Rattle.places.specs.Places.{south, west, place_at}
use Rattle.places.specs.Column12.{same_place, keeps_tie, may_stand, is_first, crosses, suits, lowest_digit}

-- which digits may stand in column 12: octants in edition 1, quadrants in the others
abbrev pub is_digit_of : Edition → ℕ → Bool
is_digit_of One = either 0 3 5 8
is_digit_of Three = among 1 3 5 7
is_digit_of Four = among 1 3 5 7

pub column_texts : (ed : Edition) (t : List ℕ) → allows (legal_texts ed 6) t ≡ (digits t && is_digit_of ed (number t))
unfolding element page allows
column_texts One t = refl
column_texts Three t = refl
column_texts Four t = refl

pub digit_stands : (ed : Edition) (digit : ℕ) → digit ≤ 9 → may_stand ed digit ≡ is_digit_of ed digit
unfolding every value_from
digit_stands ed digit h =
    let said : 0 * 10 + (48 + digit - 48) ≡ digit = omega arith in
    column_texts ed ((48 + digit) ∷ []) ∙ rw (le-leb 48 (48 + digit) (omega arith), le-leb (48 + digit) 57 (omega arith), said)

-- the edition that an arm was taken at
pub stands_at : {a b : Edition} (digit : ℕ) → a ≡ b → may_stand b digit ≡ may_stand a digit
stands_at digit e = sym (ap (λ (ed : Edition). may_stand ed digit) e)

-- off the equator north and south are two
pub off_equator : (a b : Bool) (n : ℕ) → (n ≡ 0 → ⊥) → beq a b ≡ same_signed (signed a n) (signed b n)
off_equator a b zero h = absurd (h refl)
off_equator true true (suc n) h = sym (eq-eqb n n refl)
off_equator true false (suc n) h = refl
off_equator false true (suc n) h = refl
off_equator false false (suc n) h = sym (eq-eqb (suc n) (suc n) refl)

-- a digit that may not stand, one that gives another place, and one that gives the same
module _ (from to : Edition) (d latitude longitude c : ℕ) (x : Bool) (e : x ≡ may_stand to c) where
  pub not_standing : x ≡ false → false ≡ suits from to d latitude longitude c
  unfolding suits
  not_standing h = rw (← e, h)

  module _ (h : x ≡ true) (y : Bool) (f : y ≡ same_place from d to c latitude longitude) where
    pub not_same : y ≡ false → y ≡ suits from to d latitude longitude c
    unfolding suits
    not_same k = rw (← e, h, ← f, k)

    pub same_and : y ≡ true → (z : Bool) → z ≡ keeps_tie to c longitude → z ≡ suits from to d latitude longitude c
    unfolding suits
    same_and k z g = rw (← e, h, ← f, k, ← g)

-- what crosses one way crosses back
pub crosses_back : (from to : Edition) → crosses to from ≡ crosses from to
crosses_back from to = by (is_first from) (is_first to)
  where
    by : (x y : Bool) → not (beq y x) ≡ not (beq x y)
    by true true = refl
    by true false = refl
    by false true = refl
    by false false = refl

-- what holds of each two editions between which column 12 stays
pub not_crossed : (P : Edition → Edition → Type 0) → P One One → P Three Three → P Three Four → P Four Three → P Four Four → (from to : Edition) → crosses from to ≡ false → P from to
not_crossed P a b c d e One One h = a
not_crossed P a b c d e One Three h = absurd (true≢false h)
not_crossed P a b c d e One Four h = absurd (true≢false h)
not_crossed P a b c d e Three One h = absurd (true≢false h)
not_crossed P a b c d e Three Three h = b
not_crossed P a b c d e Three Four h = c
not_crossed P a b c d e Four One h = absurd (true≢false h)
not_crossed P a b c d e Four Three h = d
not_crossed P a b c d e Four Four h = e

-- they take a digit alike, and have the same digits
pub alike_places : (d la lo : ℕ) (from to : Edition) → crosses from to ≡ false → place_at to d la lo ≡ place_at from d la lo
unfolding place_at south west
alike_places d la lo = not_crossed (λ from to. place_at to d la lo ≡ place_at from d la lo) refl refl refl refl refl

pub same_digits : (from to : Edition) → crosses from to ≡ false → legal_texts from 6 ≡ legal_texts to 6
unfolding element page
same_digits = not_crossed (λ from to. legal_texts from 6 ≡ legal_texts to 6) refl refl refl refl refl

-- the loop over the characters '0' to '9': none before b suits; b says the digit k, and x is what the code found of k
module _ (from to : Edition) (d latitude longitude : ℕ) where
  abbrev pub unsuited : ℕ → Bool
  unsuited b = not (suits from to d latitude longitude (b - 48))

  abbrev pub leaves : ℕ → Type 0
  leaves b = lowest_digit from to d latitude longitude ≡ first_from unsuited b (57 + 1 - b)

  pub begins : leaves 48
  unfolding lowest_digit
  begins = refl

  module _ (b k : ℕ) (x : Bool) (e : k ≡ b - 48) (f : x ≡ suits from to d latitude longitude k) where
    pub suited_at : x ≡ true → unsuited b ≡ false
    suited_at h = rw (← e, ← f, h)

    unsuited_at : x ≡ false → unsuited b ≡ true
    unsuited_at h = rw (← e, ← f, h)

    pub taken : leaves b → b ≤ 57 → x ≡ true → b ≡ lowest_digit from to d latitude longitude
    taken i l h = sym (i ∙ off unsuited 57 b l (suited_at h))

    pub passed : leaves b → b ≤ 57 → x ≡ false → leaves (b + 1)
    passed i l h = i ∙ on unsuited 57 b l (unsuited_at h)

  -- where some digit suits and none before the last one, it is the last
  pub ended : (b : ℕ) → leaves b → b ≤ 57 → 57 ≤ b → 1 ≤ lowest_digit from to d latitude longitude → b ≡ lowest_digit from to d latitude longitude
  ended b i l h some = by (unsuited b) refl
    where
      by : (x : Bool) → unsuited b ≡ x → b ≡ lowest_digit from to d latitude longitude
      by true e = let none : lowest_digit from to d latitude longitude ≡ 0 = i ∙ on unsuited 57 b l e ∙ end unsuited 57 (b + 1) (omega arith) in absurd (omega arith)
      by false e = sym (i ∙ off unsuited 57 b l e)
