-- What each way through the choice of column 12 says of `hemisphere`. Assumes nothing.
use mathlib.Core.Path.{◌≡◌, refl, sym, ap, ◌∙◌}
use mathlib.Core.Bool.{Bool, true, false, cond, not, ◌&&◌}
use mathlib.Core.List.{List, [], ◌∷◌}
use Prim.Native.Nat.{ℕ, ◌<◌}
use lib.ListN.{length, get_or}
use Rattle.text.specs.Bytes.{blank, number}
use Rattle.layout.specs.declared.Edition.{Edition}
use Rattle.layout.specs.Page.{page, element, start_of, text_of, first_byte}
use Rattle.layout.proofs.Parts.{one_byte}
use Rattle.places.specs.Column12.{lowest_digit, crosses}
use Rattle.recasting.specs.Recast.{hemisphere}

-- column 12 is element 6
pub six : (xs : List ℕ) → start_of 6 < length xs → text_of 6 xs ≡ first_byte 6 xs ∷ []
unfolding element page
six xs h = one_byte xs 6 refl h

module _ (from to : Edition) (xs : List ℕ) where
  stands_there : start_of 6 < length xs → first_byte 6 xs ≡ get_or (text_of 6 xs) 0 32
  stands_there h = sym (ap (λ (t : List ℕ). get_or t 0 32) (six xs h))

  -- column 12 by what the two tests say
  unfoldable pub chosen : Bool → Bool → ℕ
  chosen crossing is-blank =
      cond (crossing && not is-blank) (lowest_digit from to (number (text_of 6 xs)) (number (text_of 7 xs)) (number (text_of 8 xs))) (get_or (text_of 6 xs) 0 32)

  pub by_tests : (x b : Bool) → x ≡ crosses from to → b ≡ blank (text_of 6 xs) → chosen x b ≡ hemisphere from to xs
  unfolding hemisphere chosen
  by_tests x b f g = ap (λ (y : Bool). chosen y b) f ∙ ap (chosen (crosses from to)) g

  pub not_crossing : start_of 6 < length xs → (x : Bool) → x ≡ crosses from to → x ≡ false → first_byte 6 xs ≡ hemisphere from to xs
  unfolding chosen
  not_crossing h x f g = stands_there h ∙ by_tests false (blank (text_of 6 xs)) (sym g ∙ f) refl

  module _ (x : Bool) (f : x ≡ crosses from to) (g : x ≡ true) (digit : List ℕ) (d : digit ≡ text_of 6 xs) (b : Bool) (k : b ≡ blank digit) where
    blank_six : b ≡ blank (text_of 6 xs)
    blank_six = k ∙ ap blank d

    pub blank_place : start_of 6 < length xs → b ≡ true → first_byte 6 xs ≡ hemisphere from to xs
    unfolding chosen
    blank_place h l = stands_there h ∙ by_tests true true (sym g ∙ f) (sym l ∙ blank_six)

    pub crossed : b ≡ false → (latitude longitude : List ℕ) → latitude ≡ text_of 7 xs → longitude ≡ text_of 8 xs → (n la lo : ℕ) → n ≡ number digit → la ≡ number latitude → lo ≡ number longitude →
        (r : ℕ) → r ≡ lowest_digit from to n la lo → r ≡ hemisphere from to xs
    unfolding chosen
    crossed l latitude longitude p q n la lo s t u r v =
        v ∙ ap (λ (m : ℕ). lowest_digit from to m la lo) (s ∙ ap number d) ∙ ap (λ (m : ℕ). lowest_digit from to (number (text_of 6 xs)) m lo) (t ∙ ap number p) ∙
        ap (lowest_digit from to (number (text_of 6 xs)) (number (text_of 7 xs))) (u ∙ ap number q) ∙ by_tests true false (sym g ∙ f) (sym l ∙ blank_six)
