-- Two senses with the same number are the same sense. Assumes nothing.
use mathlib.Core.Path.{◌≡◌, refl, sym, ap, ◌∙◌}
use mathlib.Core.Bool.{true}
use mathlib.Core.List.{List, [], ◌∷◌}
use Prim.Native.Nat.{ℕ}
use borrow.Author.Tests.{eqb-true}
use lib.ListN.{get_or}
use Rattle.meanings.specs.declared.Sense.{Sense}
use Rattle.meanings.specs.declared.Sense.TheVariants.{
  Alike,
  NationalLogbook,
  InternationalLogbook,
  PaperLogbook,
  ElectronicLogbook,
  AutomatedStation,
  Others,
  VosclimShip,
  OthersOrBuoy,
  CountryNumber,
  CountryLetters,
}
use Rattle.meanings.specs.Meaning.{sense_number, same_sense}

-- the senses in the order of their numbers
unfoldable senses : List Sense
senses =
    Alike ∷ NationalLogbook ∷ InternationalLogbook ∷ PaperLogbook ∷ ElectronicLogbook ∷ AutomatedStation ∷ Others ∷ VosclimShip ∷ OthersOrBuoy ∷ CountryNumber ∷ CountryLetters ∷ []

by_number : (s : Sense) → get_or senses (sense_number s) Alike ≡ s
unfolding senses
by_number Alike = refl
by_number NationalLogbook = refl
by_number InternationalLogbook = refl
by_number PaperLogbook = refl
by_number ElectronicLogbook = refl
by_number AutomatedStation = refl
by_number Others = refl
by_number VosclimShip = refl
by_number OthersOrBuoy = refl
by_number CountryNumber = refl
by_number CountryLetters = refl

pub same_sense_lem : (a b : Sense) → same_sense a b ≡ true → a ≡ b
same_sense_lem a b e = sym (by_number a) ∙ ap (λ (n : ℕ). get_or senses n Alike) (eqb-true _ _ e) ∙ by_number b
