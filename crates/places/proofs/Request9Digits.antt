-- Request 9: which digit of column 12 is the lowest for a place of each kind, computed: the poles, the equator, Greenwich, the ninetieth meridians and both forms of the date
-- line. That every place of an accepted record has one is `every_place` of recasting. Assumes nothing.
use mathlib.Core.Path.{◌≡◌, refl}
use mathlib.Core.List.{List, [], ◌∷◌, map}
use Prim.Native.Nat.{ℕ, ◌+◌}
use Rattle.text.specs.Bytes.{every, value_from}
use Rattle.text.specs.First.{first_from}
use Rattle.text.specs.LegalTexts.{allows}
use Rattle.layout.specs.declared.Edition.{Edition}
use Rattle.layout.specs.declared.Edition.TheVariants.{One, Three, Four}
use Rattle.layout.specs.Page.{element, page}
use Rattle.places.specs.Places.{south, west, octant_fits, place_at}
use Rattle.places.specs.Column12.{suits, lowest_digit}

-- The digit of column 12, latitude and longitude of a record of the edition `from`, and the lowest digits for it in editions 1, 3 and 4.
record Case : Type 0 where
  from : Edition
  digit : ℕ
  latitude : ℕ
  longitude : ℕ
  in_1 : ℕ
  in_3 : ℕ
  in_4 : ℕ

abbrev at : Edition → ℕ → ℕ → ℕ → ℕ → ℕ → ℕ → Case
at from d la lo a b c = record { from = from; digit = d; latitude = la; longitude = lo; in_1 = a; in_3 = b; in_4 = c }

abbrev lowest_in : Edition → Case → ℕ
lowest_in to c = lowest_digit c.from to c.digit c.latitude c.longitude

-- each place as the octants of edition 1 say it, and as the quadrants of 3 and of 4 do
abbrev places : List Case
places =
    -- the poles, 90.0 N and 90.0 S: each keeps its hemisphere
    at One 3 900 100 3 1 1 ∷ at Three 1 900 100 3 1 1 ∷ at Four 1 900 100 3 1 1 ∷
    at One 8 900 100 8 3 3 ∷ at Three 3 900 100 8 3 3 ∷ at Four 3 900 100 8 3 3 ∷
    -- the equator, from the north and from the south: one place
    at One 3 0 100 3 1 1 ∷ at Three 1 0 100 3 1 1 ∷ at Four 1 0 100 3 1 1 ∷
    at One 8 0 100 3 1 1 ∷ at Three 3 0 100 3 1 1 ∷ at Four 3 0 100 3 1 1 ∷
    -- Greenwich, 0.0 E and 0.0 W: one place
    at One 3 100 0 0 1 1 ∷ at Three 1 100 0 0 1 1 ∷ at Four 1 100 0 0 1 1 ∷
    at One 0 100 0 0 1 1 ∷ at Three 7 100 0 0 1 1 ∷ at Four 7 100 0 0 1 1 ∷
    -- 90.0 E lies in octants 2 and 3, 90.0 W in 0 and 1
    at One 3 100 900 2 1 1 ∷ at One 2 100 900 2 1 1 ∷ at Three 1 100 900 2 1 1 ∷ at Four 1 100 900 2 1 1 ∷
    at One 0 100 900 0 7 7 ∷ at One 1 100 900 0 7 7 ∷ at Three 7 100 900 0 7 7 ∷ at Four 7 100 900 0 7 7 ∷
    -- the date line, 180.0 E and 180.0 W: one place
    at One 2 100 1800 1 1 1 ∷ at Three 1 100 1800 1 1 1 ∷ at Four 1 100 1800 1 1 1 ∷
    at One 1 100 1800 1 1 1 ∷ at Three 7 100 1800 1 1 1 ∷ at Four 7 100 1800 1 1 1 ∷
    []

pub cases : map (λ c. lowest_in One c ∷ lowest_in Three c ∷ lowest_in Four c ∷ []) places ≡ map (λ c. (48 + c.in_1) ∷ (48 + c.in_3) ∷ (48 + c.in_4) ∷ []) places
unfolding lowest_digit first_from suits allows element page every value_from south west octant_fits place_at
cases = refl
