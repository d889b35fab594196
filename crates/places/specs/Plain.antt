-- The digits of plain places, of which the equator, the meridians of 0 and 180 degrees and that of 90 are none: one digit of each edition gives such a place. The table
-- is the code's own: that it has the lowest digit is proved in proofs/PlainLaws.antt. Assumes nothing.
use Rattle.std.specs.Prelude.{ℕ, ◌<◌, ◌≡◌, Bool, true, false}
use Rattle.layout.specs.declared.Edition.{Edition}
use Rattle.layout.specs.declared.Edition.TheVariants.{One, Three, Four}

pub record Plain (latitude longitude : ℕ) : Type 0 where
  pub off_equator : latitude ≡ 0 → ⊥
  pub off_meridian : longitude ≡ 0 → ⊥
  pub off_ninety : longitude ≡ 900 → ⊥
  pub below : longitude < 1800

-- quadrants by south and west, '1', '3', '5', '7'
abbrev pub quadrant_of : Bool → Bool → ℕ
quadrant_of false false = 49
quadrant_of true false = 51
quadrant_of true true = 53
quadrant_of false true = 55

-- octants by south and west up to 90 degrees, '0', '3', '5', '8', and past it, '1', '2', '6', '7'
abbrev pub near_octant : Bool → Bool → ℕ
near_octant false false = 51
near_octant true false = 56
near_octant true true = 53
near_octant false true = 48

abbrev pub far_octant : Bool → Bool → ℕ
far_octant false false = 50
far_octant true false = 55
far_octant true true = 54
far_octant false true = 49

abbrev pub octant_of : Bool → Bool → Bool → ℕ
octant_of false south west = near_octant south west
octant_of true south west = far_octant south west

abbrev pub digit_in : Edition → Bool → Bool → Bool → ℕ
digit_in One far south west = octant_of far south west
digit_in Three far south west = quadrant_of south west
digit_in Four far south west = quadrant_of south west
