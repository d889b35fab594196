-- Which byte of an element of one column is lost: antt computes over the page, for each two editions, that it is lost exactly where the code loses it. Assumes nothing.
use mathlib.Core.Path.{◌≡◌, refl}
use mathlib.Core.Bool.{Bool, true, not, ◌&&◌, ◌||◌, beq}
use mathlib.Core.List.{[], ◌∷◌}
use Prim.Native.Nat.{ℕ, ◌≤◌}
use native.Mathlib.Omega.{arith}
use borrow.Author.Tests.{eqb-true}
use lib.Dec.{eqb, leb}
use Rattle.text.specs.Bytes.{every, between, value_from, run}
use Rattle.text.specs.LegalTexts.{allows}
use Rattle.text.specs.First.{first_from}
use Rattle.text.proofs.First.{all_of_none}
use Rattle.text.proofs.Ways.{and_first, and_second, imply, beq_true}
use Rattle.layout.specs.declared.Edition.{Edition}
use Rattle.layout.specs.declared.Edition.TheVariants.{One, Three, Four}
use Rattle.layout.specs.Page.{page, element, width_of, legal_text}
use Rattle.meanings.specs.Meaning.{sense_of, source_sense, platform_sense}
use Rattle.meanings.specs.Kept.{keeps, lost_text}
use Rattle.blanking.specs.LostBytes.{in_element, codes_lost, country_lost, version_lost, flags_lost, later_lost, shared_lost, lost_in}

-- the elements of one column from 40 on, but 44 to 63
abbrev pub alone : ℕ → Bool
alone e = between 40 41 e || (between 64 86 e || leb 94 e)

-- a byte that is legal alone is lost exactly where the code loses it
agrees : Edition → Edition → ℕ → ℕ → Bool
agrees from to e b = not (legal_text from e (b ∷ [])) || beq (lost_text from to e (b ∷ [])) (lost_in from to (in_element e) b)

fits : Edition → Edition → ℕ → Bool
fits from to e = not (alone e) || (eqb (width_of e) 1 && eqb (first_from (agrees from to e) 32 95) 0)

all_fit : (from to : Edition) → first_from (fits from to) 1 101 ≡ 0
unfolding
    first_from
    agrees
    fits
    element
    page
    lost_text
    keeps
    sense_of
    source_sense
    platform_sense
    allows
    every
    value_from
    run
    codes_lost
    country_lost
    version_lost
    flags_lost
    later_lost
    shared_lost
    lost_in
all_fit One One = refl
all_fit One Three = refl
all_fit One Four = refl
all_fit Three One = refl
all_fit Three Three = refl
all_fit Three Four = refl
all_fit Four One = refl
all_fit Four Three = refl
all_fit Four Four = refl

module _ (from to : Edition) (e : ℕ) (l : 1 ≤ e) (h : e ≤ 101) (a : alone e ≡ true) where
  fit : (eqb (width_of e) 1 && eqb (first_from (agrees from to e) 32 95) 0) ≡ true
  unfolding fits
  fit = imply (alone e) _ (all_of_none (fits from to) 1 101 (omega arith) (all_fit from to) e l (omega arith)) a

  pub narrow : width_of e ≡ 1
  narrow = eqb-true _ _ (and_first _ _ fit)

  pub alone_lost : (b : ℕ) → 32 ≤ b → b ≤ 126 → legal_text from e (b ∷ []) ≡ true → lost_text from to e (b ∷ []) ≡ lost_in from to (in_element e) b
  unfolding agrees
  alone_lost b low high legal =
      let each = all_of_none (agrees from to e) 32 95 (omega arith) (eqb-true _ _ (and_second (eqb (width_of e) 1) _ fit)) b low (omega arith) in
      beq_true _ _ (imply (legal_text from e (b ∷ [])) _ each legal)
