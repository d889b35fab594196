-- What ties 1 and 3 to 6 say of the texts that they bind: they are there together or blank together. Assumes nothing.
use mathlib.Core.Path.{◌≡◌, refl, sym}
use mathlib.Core.Bool.{Bool, true, false, not, beq, true≢false}
use mathlib.Core.List.{List}
use Prim.Native.Nat.{ℕ}
use Rattle.text.specs.Bytes.{blank}
use Rattle.text.proofs.Ways.{and_first, and_second}
use Rattle.ties.specs.Ties.{place_tie, sign_tie}

there_alike : (x y : Bool) → beq (not x) (not y) ≡ true → y ≡ x
there_alike true true e = refl
there_alike true false e = absurd (true≢false (sym e))
there_alike false true e = absurd (true≢false (sym e))
there_alike false false e = refl

-- tie 1: the latitude with the digit of column 12, and the longitude with the latitude
module _ (digit latitude longitude : List ℕ) (tied : place_tie digit latitude longitude ≡ true) where
  pub latitude_alike : blank latitude ≡ blank digit
  unfolding place_tie
  latitude_alike = there_alike _ _ (and_first _ _ tied)

  pub longitude_alike : blank longitude ≡ blank latitude
  unfolding place_tie
  longitude_alike = there_alike _ _ (and_second (beq (not (blank digit)) (not (blank latitude))) _ tied)

-- ties 3 to 6: a temperature with its sign
pub value_alike : (sign value : List ℕ) → sign_tie sign value ≡ true → blank value ≡ blank sign
unfolding sign_tie
value_alike sign value tied = there_alike _ _ (and_first _ _ tied)
