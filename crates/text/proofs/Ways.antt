-- What each way through a test of two halves says of the whole: x is what the code's first test answered, y its second. Assumes nothing.
use mathlib.Core.Path.{◌≡◌, refl, sym}
use mathlib.Core.Bool.{Bool, true, false, not, ◌&&◌, ◌||◌, beq, true≢false}

module _ (x p : Bool) (e : x ≡ p) where
  pub or_holds : (q : Bool) → x ≡ true → x ≡ (p || q)
  or_holds q h = rw (← e, h)

  pub or_goes_on : (y q : Bool) → x ≡ false → y ≡ q → y ≡ (p || q)
  or_goes_on y q h f = rw (← e, h) f

  pub and_stops : (q : Bool) → x ≡ false → x ≡ (p && q)
  and_stops q h = rw (← e, h)

  pub and_goes_on : (y q : Bool) → x ≡ true → y ≡ q → y ≡ (p && q)
  and_goes_on y q h f = rw (← e, h) f

-- both halves of a test that passed
pub and_first : (a b : Bool) → (a && b) ≡ true → a ≡ true
and_first true b e = refl
and_first false b e = e

pub and_second : (a b : Bool) → (a && b) ≡ true → b ≡ true
and_second true b e = e
and_second false b e = absurd (true≢false (sym e))

-- a test that passes by its second half
pub second_holds : (a b : Bool) → b ≡ true → (a || b) ≡ true
second_holds true b e = refl
second_holds false b e = e

-- two answers that are the same are equal
pub beq_true : (x y : Bool) → beq x y ≡ true → x ≡ y
beq_true true true e = refl
beq_true true false e = absurd (true≢false (sym e))
beq_true false true e = absurd (true≢false (sym e))
beq_true false false e = refl

pub beq_same : (x : Bool) → beq x x ≡ true
beq_same true = refl
beq_same false = refl

-- by what a test answers
pub decide : {P : Type 0} (x : Bool) → (x ≡ true → P) → (x ≡ false → P) → P
decide true f g = f refl
decide false f g = g refl

-- a computed test that one thing follows from another
pub imply : (a b : Bool) → (not a || b) ≡ true → a ≡ true → b ≡ true
imply true b e h = e
imply false b e h = absurd (true≢false (sym h))
