-- Column 12 of the recast record: it stays, or it is the lowest digit with the same place that keeps tie 2. Assumes nothing.
use mathlib.Core.Path.{◌≡◌, refl, sym, ap, ◌∙◌}
use mathlib.Core.Logic.{◌⊎◌, inl, inr, ⊎_elim}
use mathlib.Core.Bool.{Bool, true, false, true≢false}
use mathlib.Core.List.{List, [], ◌∷◌}
use Prim.Native.Nat.{ℕ}
use native.Mathlib.Omega.{arith}
use lib.ListN.{get_or}
use Rattle.text.specs.Bytes.{blank, number}
use Rattle.layout.specs.declared.Edition.{Edition}
use Rattle.layout.specs.Page.{text_of}
use Rattle.layout.proofs.Beyond.{last_above}
use Rattle.layout.proofs.RecordLaws.{begins}
use Rattle.checking.specs.Acceptable.{Acceptable}
use Rattle.places.specs.Column12.{lowest_digit, crosses}
use Rattle.recasting.proofs.Request9Places.{standing, digit_there, HasDigit, every_place}
use Rattle.recasting.specs.Recast.{hemisphere, recast_text}
use Rattle.recasting.proofs.PlaceLaws.{six, chosen, by_tests}
use Rattle.recasting.proofs.ResultLaws.{result, result_text}

module _ (from to : Edition) (xs : List ℕ) (a : Acceptable from xs) where
  -- what has become of column 12
  pub data Column : Type 0 where
    stays : (crosses from to ≡ false) ⊎ (blank (text_of 6 xs) ≡ true) → text_of 6 (result from to xs a) ≡ text_of 6 xs → Column
    moves : crosses from to ≡ true → blank (text_of 6 xs) ≡ false → (f : HasDigit from to xs) → text_of 6 (result from to xs a) ≡ standing f.digit → Column

  six_text : text_of 6 (result from to xs a) ≡ hemisphere from to xs ∷ []
  unfolding recast_text
  six_text = result_text from to xs a 6 (omega arith) (omega (arith, last_above to))

  -- the column that stands there
  own_six : get_or (text_of 6 xs) 0 32 ∷ [] ≡ text_of 6 xs
  own_six =
      let one = six xs (omega (arith, a.full, begins from 6 (omega arith) (omega (arith, last_above from)))) in
      ap (λ (t : List ℕ). get_or t 0 32 ∷ []) one ∙ sym one

  pub column : Column
  unfolding chosen
  column = by (crosses from to) (blank (text_of 6 xs)) refl refl
    where
      -- what the two tests choose is what is written
      written : (x b : Bool) → crosses from to ≡ x → blank (text_of 6 xs) ≡ b → text_of 6 (result from to xs a) ≡ chosen from to xs x b ∷ []
      written x b f g = six_text ∙ ap (λ (n : ℕ). n ∷ []) (sym (by_tests from to xs x b (sym f) (sym g)))

      by : (x b : Bool) → crosses from to ≡ x → blank (text_of 6 xs) ≡ b → Column
      by false b f g = stays (inl f) (written false b f g ∙ own_six)
      by true true f g = stays (inr g) (written true true f g ∙ own_six)
      by true false f g = let d = every_place from to xs a g in moves f g d (written true false f g ∙ ap (λ (n : ℕ). n ∷ []) d.lowest)

  -- it does one of the two
  pub not_both : (crosses from to ≡ false) ⊎ (blank (text_of 6 xs) ≡ true) → crosses from to ≡ true → blank (text_of 6 xs) ≡ false → ⊥
  not_both w c b = ⊎_elim (λ n. true≢false (sym c ∙ n)) (λ y. true≢false (sym y ∙ b)) w

  pub crossed : crosses from to ≡ true → blank (text_of 6 xs) ≡ false →
      text_of 6 (result from to xs a) ≡ lowest_digit from to (number (text_of 6 xs)) (number (text_of 7 xs)) (number (text_of 8 xs)) ∷ []
  crossed c b = by column
    where
      by : Column → text_of 6 (result from to xs a) ≡ lowest_digit from to (number (text_of 6 xs)) (number (text_of 7 xs)) (number (text_of 8 xs)) ∷ []
      by (stays w e) = absurd (not_both w c b)
      by (moves x y f e) = e ∙ ap (λ (n : ℕ). n ∷ []) (sym f.lowest)

  -- it is there exactly where it was
  pub same_there : blank (text_of 6 (result from to xs a)) ≡ blank (text_of 6 xs)
  same_there = by column
    where
      by : Column → blank (text_of 6 (result from to xs a)) ≡ blank (text_of 6 xs)
      by (stays w e) = ap blank e
      by (moves c b f e) = ap blank e ∙ digit_there f.digit ∙ sym b
