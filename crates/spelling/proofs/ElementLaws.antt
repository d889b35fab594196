-- The columns of each element of an acceptable record, spelled from its reading, are its columns again. Assumes nothing.
use Rattle.layout.proofs.PartLaws.{coordinate_cases, sign_cases, temperature_cases, departure_is}
use mathlib.Core.Path.{◌≡◌, refl, sym, ap, ◌∙◌}
use mathlib.Core.Bool.{Bool, true, false}
use mathlib.Core.Logic.{◌⊎◌, inl, inr, ⊎_elim}
use mathlib.Core.List.{List}
use Prim.Native.Nat.{ℕ, ◌≤◌}
use native.Mathlib.Omega.{arith}
use borrow.Author.Tests.{le-leb}
use lib.Dec.{eqb, lit≤}
use Rattle.text.specs.Bytes.{between, either, number}
use Rattle.text.specs.declared.LegalTexts.TheVariants.{Within, Either}
use Rattle.text.specs.LegalTexts.{allows}
use Rattle.text.proofs.Ranges.{greatest}
use Rattle.text.proofs.Among.{at_number}
use Rattle.numerals.specs.Numerals.{spell}
use Rattle.layout.specs.declared.Edition.{Edition}
use Rattle.layout.specs.declared.Edition.TheVariants.{One, Three, Four}
use Rattle.layout.specs.Editions.{last_of}
use Rattle.layout.specs.Page.{page, element, width_of, text_of, legal_texts, legal, is_departure, is_coordinate, is_sign, is_temperature}
use Rattle.places.proofs.DigitLaws.{is_digit_of, column_texts}
use Rattle.ties.specs.Ties.{tie, sign_tie}
use Rattle.checking.specs.Acceptable.{Acceptable}
use Rattle.reading.specs.declared.Reading.{Reading}
use Rattle.reading.specs.Readings.{temperature, item_of, reading_of}
use Rattle.spelling.specs.Spelled.{numeral_for}
use Rattle.layout.proofs.Elements.{in_each}
use Rattle.layout.proofs.Holding.{Holds, empty, holds, in_digits_lem, within}
use Rattle.layout.proofs.RecordLaws.{text_long}
use Rattle.checking.proofs.PrintLaws.{legal_prints}
use Rattle.spelling.proofs.BackLaws.{plain_back, sign_back, value_back, departure_back, digit_back, latitude_back, longitude_back}

-- the legal texts of a sign, alike in every edition: 0 and 1 for the air and the sea, computed and iced too for the dew point and the wet bulb; and those of a
-- temperature
abbrev SignTexts : Edition → ℕ → Type 0
SignTexts ed e = (legal_texts ed e ≡ Within 0 1) ⊎ (legal_texts ed e ≡ Either 0 2 5 7)

pub sign_texts : (ed : Edition) (e : ℕ) → is_sign e ≡ true → SignTexts ed e
unfolding element page
sign_texts ed e = sign_cases (SignTexts ed) e
    (inl (in_each ed 16 (Within 0 1) refl refl refl))
    (inr (in_each ed 18 (Either 0 2 5 7) refl refl refl))
    (inl (in_each ed 28 (Within 0 1) refl refl refl))
    (inr (in_each ed 50 (Either 0 2 5 7) refl refl refl))

pub value_texts : (ed : Edition) (e : ℕ) → is_temperature e ≡ true → legal_texts ed e ≡ Within 0 999
unfolding element page
value_texts ed e = temperature_cases (λ k. legal_texts ed k ≡ Within 0 999) e
    (in_each ed 17 (Within 0 999) refl refl refl)
    (in_each ed 19 (Within 0 999) refl refl refl)
    (in_each ed 29 (Within 0 999) refl refl refl)
    (in_each ed 51 (Within 0 999) refl refl refl)

-- the elements with a sign, a temperature, a place and the departure of a record in which they are legal
module _ (ed : Edition) (xs : List ℕ) where
  abbrev Legal : ℕ → Type 0
  Legal e = legal ed xs e ≡ true

  few_signs : (e : ℕ) → legal_texts ed e ≡ Within 0 1 → Legal e → Holds (either 0 2 5 7) (text_of e xs)
  unfolding allows
  few_signs e f h = wider (in_digits_lem (between 0 1) ed xs e (rw f) h)
    where
      more : (n : ℕ) → between 0 1 n ≡ true → either 0 2 5 7 n ≡ true
      more n k = let l = greatest 0 1 n k in rw (le-leb 0 n (omega arith), le-leb n 2 (omega arith))

      wider : Holds (between 0 1) (text_of e xs) → Holds (either 0 2 5 7) (text_of e xs)
      wider (empty b) = empty b
      wider (holds b d p) = holds b d (more (number (text_of e xs)) p)

  all_signs : (e : ℕ) → legal_texts ed e ≡ Either 0 2 5 7 → Legal e → Holds (either 0 2 5 7) (text_of e xs)
  unfolding allows
  all_signs e f h = in_digits_lem (either 0 2 5 7) ed xs e (rw f) h

  pub signs : (e : ℕ) → is_sign e ≡ true → Legal e → Holds (either 0 2 5 7) (text_of e xs)
  signs e g h = ⊎_elim (λ t. few_signs e t h) (λ t. all_signs e t h) (sign_texts ed e g)

  pub values : (e : ℕ) → is_temperature e ≡ true → Legal e → Holds (between 0 999) (text_of e xs)
  values e g h = within ed xs 0 999 e (value_texts ed e g) h

pub departures : (ed : Edition) (xs : List ℕ) → 91 ≤ last_of ed → legal ed xs 91 ≡ true → Holds (either 0 99 101 199) (text_of 91 xs)
unfolding element page allows
departures One xs l h = absurd (omega arith)
departures Three xs l h = in_digits_lem (either 0 99 101 199) Three xs 91 refl h
departures Four xs l h = in_digits_lem (either 0 99 101 199) Four xs 91 refl h

-- the columns of each element of an acceptable record, spelled from its reading
module _ (ed : Edition) (xs : List ℕ) (a : Acceptable ed xs) where
  abbrev Back : ℕ → Type 0
  Back e = e ≤ last_of ed → spell (width_of e) (numeral_for ed e (reading_of ed xs e)) ≡ text_of e xs

  sign_at : (e f : ℕ) → reading_of ed xs e ≡ temperature (text_of e xs) (text_of f xs) → is_sign e ≡ true → sign_tie (text_of e xs) (text_of f xs) ≡ true →
      1 ≤ e → Back e
  sign_at e f r g t p h =
      ap (λ (x : Reading). spell (width_of e) (numeral_for ed e x)) r ∙
      sign_back ed (text_of e xs) (text_of f xs) t e g (text_long ed xs a.full e h) (signs ed xs e g (a.lawful e p h))

  value_at : (e f : ℕ) → reading_of ed xs f ≡ temperature (text_of e xs) (text_of f xs) → is_sign f ≡ false → is_temperature f ≡ true →
      sign_tie (text_of e xs) (text_of f xs) ≡ true → 1 ≤ f → Back f
  value_at e f r n g t p h =
      ap (λ (x : Reading). spell (width_of f) (numeral_for ed f x)) r ∙
      value_back ed (text_of e xs) (text_of f xs) t f n g (text_long ed xs a.full f h) (values ed xs f g (a.lawful f p h))

  signs_back : (e : ℕ) → is_sign e ≡ true → Back e
  unfolding item_of tie is_departure is_coordinate is_sign is_temperature element page
  signs_back e = sign_cases Back e
      (sign_at 16 17 refl refl (a.tied 3) (lit≤ tt))
      (sign_at 18 19 refl refl (a.tied 4) (lit≤ tt))
      (sign_at 28 29 refl refl (a.tied 5) (lit≤ tt))
      (sign_at 50 51 refl refl (a.tied 6) (lit≤ tt))

  values_back : (e : ℕ) → is_temperature e ≡ true → Back e
  unfolding item_of tie is_departure is_coordinate is_sign is_temperature element page
  values_back e = temperature_cases Back e
      (value_at 16 17 refl refl refl (a.tied 3) (lit≤ tt))
      (value_at 18 19 refl refl refl (a.tied 4) (lit≤ tt))
      (value_at 28 29 refl refl refl (a.tied 5) (lit≤ tt))
      (value_at 50 51 refl refl refl (a.tied 6) (lit≤ tt))

  hemisphere_back : Back 6
  unfolding item_of tie is_coordinate is_temperature element page
  hemisphere_back h =
      digit_back ed (text_of 6 xs) (text_of 7 xs) (text_of 8 xs) (a.tied 1) (is_digit_of ed) (text_long ed xs a.full 6 h)
      (in_digits_lem (is_digit_of ed) ed xs 6 (column_texts ed (text_of 6 xs)) (a.lawful 6 (lit≤ tt) h))

  place_back : (e : ℕ) → is_coordinate e ≡ true → Back e
  unfolding item_of tie is_coordinate is_temperature element page
  place_back e = coordinate_cases Back e latitude longitude
    where
      latitude : Back 7
      latitude h =
          latitude_back ed (text_of 6 xs) (text_of 7 xs) (text_of 8 xs) (a.tied 1) (between 0 900) (text_long ed xs a.full 7 h)
          (within ed xs 0 900 7 (in_each ed 7 (Within 0 900) refl refl refl) (a.lawful 7 (lit≤ tt) h))

      longitude : Back 8
      longitude h =
          longitude_back ed (text_of 6 xs) (text_of 7 xs) (text_of 8 xs) (a.tied 1) (text_long ed xs a.full 8 h)
          (within ed xs 0 1800 8 (in_each ed 8 (Within 0 1800) refl refl refl) (a.lawful 8 (lit≤ tt) h))

  departed_back : Back 91
  unfolding item_of is_departure is_coordinate is_sign is_temperature element page
  departed_back h = departure_back ed (text_of 91 xs) (text_long ed xs a.full 91 h) (departures ed xs h (a.lawful 91 (lit≤ tt) h))

  pub element_back : (e : ℕ) → 1 ≤ e → Back e
  unfolding item_of
  element_back e l h = by (is_coordinate e) (is_temperature e) (eqb e 6) (is_sign e) (is_departure e) refl refl refl refl refl
    where
      by : (p q r s t : Bool) → is_coordinate e ≡ p → is_temperature e ≡ q → eqb e 6 ≡ r → is_sign e ≡ s → is_departure e ≡ t →
          spell (width_of e) (numeral_for ed e (reading_of ed xs e)) ≡ text_of e xs
      by true q r s t f g i j k = place_back e f h
      by false true r s t f g i j k = values_back e g h
      by false false true s t f g i j k = at_number Back e 6 i hemisphere_back h
      by false false false true t f g i j k = signs_back e j h
      by false false false false true f g i j k = at_number Back e 91 (sym (departure_is e) ∙ k) departed_back h
      by false false false false false f g i j k = rw (f, g, i, j, k) (plain_back ed e (text_of e xs) (text_long ed xs a.full e h) (legal_prints ed xs e (a.lawful e l h)))
