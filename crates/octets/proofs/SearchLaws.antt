-- Where a byte stands, as the place at which a search by std finds it. Assumes nothing.
use lib.Dec.{eqb}
use Rattle.octets.specs.Octets.{index_after, index_of}
use Rattle.std.specs.List.{position_or_len}
use Rattle.std.proofs.lemmas.List.Sums.{prefix_len-le-length}
use Rattle.std.proofs.Common.{ℕ, ◌≡◌, ◌+◌, ◌∙◌, List, [], ◌∷◌, Bool, true, false, Option, Some, None, cond, not, ltb, ltb-false, unwrap_or, length, refl, arith, one-add}

pub place_index : (b : ℕ) (xs : List ℕ) → position_or_len (λ x. eqb x b) xs ≡ index_of b xs
unfolding index_of index_after
place_index b [] = refl
place_index b (x ∷ xs) = by (eqb x b) (place_index b xs)
  where
    by : (t : Bool) {m n : ℕ} → m ≡ n → cond (not t) (1 + m) 0 ≡ index_after t n
    by true e = refl
    by false e = rw (e, one-add)

-- the place that was found, or the end
pub found : (b : ℕ) (xs : List ℕ) (p : Option ℕ) (u : ℕ) → p ≡ cond (ltb (position_or_len (λ x. eqb x b) xs) (length xs)) (Some (position_or_len (λ x. eqb x b) xs)) None → u ≡ unwrap_or p (length xs) → u ≡ index_of b xs
found b xs p u e f = by (ltb n (length xs)) refl ∙ place_index b xs
  where
    n : ℕ
    n = position_or_len (λ x. eqb x b) xs

    by : (t : Bool) → ltb n (length xs) ≡ t → u ≡ n
    by true h = rw (f, e, h)
    by false h = omega (arith, (rw (e, h) at f), ltb-false n (length xs) h, prefix_len-le-length (λ x. not (eqb x b)) xs)
