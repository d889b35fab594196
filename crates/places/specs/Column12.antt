-- Column 12 between editions: which digit of one edition gives the place that a digit of another gave. Assumes nothing.
use Rattle.std.specs.Prelude.{ℕ, ◌+◌, ◌-◌, Bool, true, false, not, ◌&&◌, [], ◌∷◌, eqb}
use Rattle.std.specs.Bool.{beq}
use Rattle.text.specs.First.{first_from}
use Rattle.text.specs.LegalTexts.{allows}
use Rattle.layout.specs.declared.Edition.{Edition}
use Rattle.layout.specs.declared.Edition.TheVariants.{One, Three, Four}
use Rattle.layout.specs.Page.{legal_texts}
use Rattle.signs.specs.Signed.{same_signed}
use Rattle.places.specs.declared.Place.{Place}
use Rattle.places.specs.Places.{octant_fits, place_at}

-- two places are one: the same signed latitude and the same east longitude, whatever digit gives them
abbrev pub one_place : Place → Place → Bool
one_place p q = same_signed p.latitude q.latitude && eqb p.longitude q.longitude

-- two digits give one place with the same latitude and longitude in their columns
abbrev pub same_place : Edition → ℕ → Edition → ℕ → ℕ → ℕ → Bool
same_place from d to c latitude longitude = one_place (place_at from d latitude longitude) (place_at to c latitude longitude)

-- tie 2, which edition 1 alone has
abbrev pub keeps_tie : Edition → ℕ → ℕ → Bool
keeps_tie One digit longitude = octant_fits digit longitude
keeps_tie Three digit longitude = true
keeps_tie Four digit longitude = true

-- digit c may stand in column 12 of the edition `to`, gives the same place as digit d of the edition `from`, and keeps tie 2
abbrev pub may_stand : Edition → ℕ → Bool
may_stand ed digit = allows (legal_texts ed 6) ((48 + digit) ∷ [])

unfoldable pub suits : Edition → Edition → ℕ → ℕ → ℕ → ℕ → Bool
suits from to d latitude longitude c = may_stand to c && (same_place from d to c latitude longitude && keeps_tie to c longitude)

-- the lowest such digit, as the character '0' to '9'; every place has one (`every_place`)
unfoldable pub lowest_digit : Edition → Edition → ℕ → ℕ → ℕ → ℕ
lowest_digit from to d latitude longitude = first_from (λ b. not (suits from to d latitude longitude (b - 48))) 48 10

-- between edition 1 and the others
abbrev pub is_first : Edition → Bool
is_first One = true
is_first Three = false
is_first Four = false

abbrev pub crosses : Edition → Edition → Bool
crosses from to = not (beq (is_first from) (is_first to))
