-- Parts of some bytes: the front has as many of them as were asked for, and one column has the byte that stands there. Assumes nothing.
use mathlib.Core.Path.{◌≡◌}
use mathlib.Core.List.{List, [], ◌∷◌}
use Prim.Native.Nat.{ℕ, ◌<◌, ◌≤◌}
use native.Mathlib.Nat.{min-eq_left}
use lib.ListN.{length, get_or, take, drop, length-take}
use lib.Seq.{drop-cons}

pub front_length : (n : ℕ) (xs : List ℕ) → n ≤ length xs → n ≡ length (take n xs)
front_length n xs h = rw (length-take, min-eq_left h)

pub one_column : (xs : List ℕ) (i : ℕ) → i < length xs → take 1 (drop i xs) ≡ get_or xs i 0 ∷ []
one_column xs i h = rw (drop-cons xs i 0 h)
