-- Two readings are equal when they are the same in every part. Assumes nothing.
use Rattle.std.specs.Prelude.{ℕ, Bool, false, ◌&&◌, eqb, nat_abs}
use Rattle.std.specs.Bool.{beq}
use Rattle.reading.specs.declared.Kind.{Kind}
use Rattle.reading.specs.declared.Kind.TheVariants.{Measured, Computed, IcedMeasured, IcedComputed}
use Rattle.reading.specs.declared.Reading.{Reading}
use Rattle.reading.specs.declared.Reading.TheVariants.{Missing, Code, Text, Amount, At}
use Rattle.signs.specs.Signed.{negative}

abbrev pub kind_number : Kind → ℕ
kind_number Measured = 0
kind_number Computed = 1
kind_number IcedMeasured = 2
kind_number IcedComputed = 3

-- a reading taken apart into numbers, so that two can be compared
pub record Parts : Type 0 where
  pub case : ℕ
  pub below : Bool
  pub first : ℕ
  pub second : ℕ
  pub third : ℕ

-- the parts of a reading
unfoldable pub parts_of : Reading → Parts
parts_of Missing = record { case = 0; below = false; first = 0; second = 0; third = 0 }
parts_of (Code n) = record { case = 1; below = false; first = n; second = 0; third = 0 }
parts_of (Text n) = record { case = 2; below = false; first = n; second = 0; third = 0 }
parts_of (Amount a k) = record { case = 3; below = negative a; first = nat_abs a; second = kind_number k; third = 0 }
parts_of (At p) = record { case = 4; below = negative p.latitude; first = nat_abs p.latitude; second = p.longitude; third = p.digit }

abbrev pub same_parts : Parts → Parts → Bool
same_parts p q =
    eqb p.case q.case && (beq p.below q.below && (eqb p.first q.first && (eqb p.second q.second && eqb p.third q.third)))

unfoldable pub same : Reading → Reading → Bool
same a b = same_parts (parts_of a) (parts_of b)
