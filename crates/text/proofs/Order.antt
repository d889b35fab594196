-- Digits of one length stand in the order of the numbers that they say, when their bytes are taken as one number. Assumes nothing.
use mathlib.Core.Path.{◌≡◌, refl, ap₂}
use mathlib.Core.Bool.{Bool, true, false}
use mathlib.Core.List.{List, [], ◌∷◌}
use Prim.Native.Nat.{ℕ, ◌+◌, ◌-◌, ◌*◌, ◌<◌, ◌≤◌}
use native.Mathlib.Omega.{arith}
use borrow.Author.Tests.{ltb-true, ltb-false}
use lib.Dec.{ltb}
use lib.ListN.{length, replicate}
use Rattle.text.specs.Bytes.{every, between, digits, number, number_from, word, value_from}
use Rattle.text.proofs.Ways.{and_first, and_second}
use Rattle.text.proofs.Ranges.{least, greatest}

-- m and p, taken as bytes, stand as n and q do, taken as digits
data Ordered (m n p q : ℕ) : Type 0 where
  under : m < p → n < q → Ordered m n p q
  level : m ≡ p → n ≡ q → Ordered m n p q
  over : p < m → q < n → Ordered m n p q

-- one digit more of each
order_more : (m n p q b c : ℕ) → between 48 57 b ≡ true → between 48 57 c ≡ true → Ordered m n p q → Ordered (m * 256 + (b - 0)) (n * 10 + (b - 48)) (p * 256 + (c - 0)) (q * 10 + (c - 48))
order_more m n p q b c d e o = by o (ltb b c) (ltb c b) refl refl
  where
    by : Ordered m n p q → (x y : Bool) → ltb b c ≡ x → ltb c b ≡ y → Ordered (m * 256 + (b - 0)) (n * 10 + (b - 48)) (p * 256 + (c - 0)) (q * 10 + (c - 48))
    by (under f g) x y u v = under (omega (arith, least 48 57 c e, greatest 48 57 b d)) (omega (arith, least 48 57 c e, greatest 48 57 b d))
    by (over f g) x y u v = over (omega (arith, least 48 57 b d, greatest 48 57 c e)) (omega (arith, least 48 57 b d, greatest 48 57 c e))
    by (level f g) true y u v = under (omega (arith, ltb-true b c u)) (omega (arith, ltb-true b c u, least 48 57 b d))
    by (level f g) false true u v = over (omega (arith, ltb-true c b v)) (omega (arith, ltb-true c b v, least 48 57 c e))
    by (level f g) false false u v = level (omega (arith, ltb-false b c u, ltb-false c b v)) (omega (arith, ltb-false b c u, ltb-false c b v))

order_from : (m n p q : ℕ) (t u : List ℕ) → length t ≡ length u → digits t ≡ true → digits u ≡ true → Ordered m n p q → Ordered (value_from 256 0 m t) (number_from n t) (value_from 256 0 p u) (number_from q u)
unfolding value_from every
order_from m n p q [] [] l d e o = o
order_from m n p q [] (c ∷ u) l d e o = absurd (omega arith)
order_from m n p q (b ∷ t) [] l d e o = absurd (omega arith)
order_from m n p q (b ∷ t) (c ∷ u) l d e o =
    order_from (m * 256 + (b - 0)) (n * 10 + (b - 48)) (p * 256 + (c - 0)) (q * 10 + (c - 48)) t u (omega arith) (and_second (between 48 57 b) _ d) (and_second (between 48 57 c) _ e) (order_more m n p q b c (and_first _ (digits t) d) (and_first _ (digits u) e) o)

module _ (t u : List ℕ) (l : length t ≡ length u) (d : digits t ≡ true) (e : digits u ≡ true) where
  ordered : Ordered (word t) (number t) (word u) (number u)
  ordered = order_from 0 0 0 0 t u l d e (level refl refl)

  pub as_words : word t ≤ word u → number t ≤ number u
  as_words h = by ordered
    where
      by : Ordered (word t) (number t) (word u) (number u) → number t ≤ number u
      by (under f g) = omega arith
      by (level f g) = omega arith
      by (over f g) = absurd (omega arith)

  pub as_numbers : number t ≤ number u → word t ≤ word u
  as_numbers h = by ordered
    where
      by : Ordered (word t) (number t) (word u) (number u) → word t ≤ word u
      by (under f g) = omega arith
      by (level f g) = omega arith
      by (over f g) = absurd (omega arith)

-- no digits say more than nines
most_from : (n m : ℕ) (t : List ℕ) → n ≤ m → digits t ≡ true → number_from n t ≤ number_from m (replicate (length t) 57)
unfolding value_from every
most_from n m [] h d = h
most_from n m (b ∷ t) h d = most_from (n * 10 + (b - 48)) (m * 10 + (57 - 48)) t (omega (arith, greatest 48 57 b (and_first _ (digits t) d))) (and_second (between 48 57 b) _ d)

pub most : (t : List ℕ) → digits t ≡ true → number t ≤ number (replicate (length t) 57)
most t d = most_from 0 0 t (omega arith) d

-- digits that say 0 are zeros
zeros_from : (n : ℕ) (t : List ℕ) → digits t ≡ true → number_from n t ≡ 0 → (n ≡ 0) × (t ≡ replicate (length t) 48)
unfolding value_from every
zeros_from n [] d e = (e, refl)
zeros_from n (b ∷ t) d e =
    let r = zeros_from (n * 10 + (b - 48)) t (and_second (between 48 57 b) _ d) e in
    let z : b ≡ 48 = omega (arith, r.0, least 48 57 b (and_first _ (digits t) d)) in
    (omega (arith, r.0), ap₂ ◌∷◌ z r.1)

pub zeros : (t : List ℕ) → digits t ≡ true → number t ≡ 0 → t ≡ replicate (length t) 48
zeros t d e = (zeros_from 0 t d e).1
