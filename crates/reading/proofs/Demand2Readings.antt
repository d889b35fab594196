-- Demand 2: each reading is what the published layout gives, and a refused record has none. Of an accepted record every element is read, and what it reads as
-- is said by the kind of item, from the texts in its columns; `printed` and `one_by_one` of the layout's promises say which columns those are.
-- Assumes nothing.
use Rattle.std.proofs.Common.{Err, Ok}
use Rattle.layout.proofs.PartLaws.{departure_is, coordinate_is, sign_is, temperature_is}
use mathlib.Core.Path.{◌≡◌, refl, ◌∙◌}
use mathlib.Core.Bool.{true, false}
use mathlib.Core.List.{List}
use Prim.Native.Nat.{ℕ, ◌+◌, ◌-◌, ◌<◌, ◌≤◌}
use native.Mathlib.Omega.{arith}
use lib.Dec.{lit≤}
use Rattle.text.specs.LegalTexts.{among}
use Rattle.text.proofs.Among.{among_cases, not_first, not_second, not_third, not_fourth}
use Rattle.layout.specs.declared.Edition.{Edition}
use Rattle.refusals.specs.declared.Refusal.{Refusal}
use Rattle.layout.specs.Editions.{last_of}
use Rattle.layout.specs.Page.{text_of, is_departure, is_coordinate, is_sign, is_temperature, element, page}
use Rattle.checking.specs.Check.{checked}
use Rattle.checking.proofs.Demand2Acceptance.{accepted_exactly}
use Rattle.reading.specs.declared.Reading.{Reading}
use Rattle.reading.specs.declared.Reading.TheVariants.{Missing}
use Rattle.reading.specs.Readings.{plain, temperature, departure, place_of, item_of, reading_of}
use Rattle.reading.specs.Answers.{read_after, read_as, read_of}
use Rattle.reading.proofs.EntryLaws.{read_as_lem}
use Rattle.reading.proofs.ReadingLaws.{among_below, among_above, lacking}

-- what element e of the record reads as
abbrev pub reads : List ℕ → ℕ → Reading
reads xs e = read_as (read_of xs).entries e

-- an accepted record
module _ (ed : Edition) (xs : List ℕ) (accepted : checked xs ≡ Ok ed) where
  pub reads_each : (e : ℕ) → 1 ≤ e → e ≤ 101 → reads xs e ≡ reading_of ed xs e
  unfolding read_after
  reads_each e l h = rw accepted (read_as_lem (reading_of ed xs) e l h)

  -- 6, 7, 8: the one place, from column 12, latitude and longitude
  pub reads_place : (e : ℕ) → among 6 7 8 8 e ≡ true → reads xs e ≡ place_of ed (text_of 6 xs) (text_of 7 xs) (text_of 8 xs)
  unfolding item_of is_departure is_coordinate is_sign is_temperature element page
  reads_place e k =
      reads_each e (among_above 1 6 7 8 8 e (lit≤ tt) (lit≤ tt) (lit≤ tt) (lit≤ tt) k) (among_below 101 6 7 8 8 e (lit≤ tt) (lit≤ tt) (lit≤ tt) (lit≤ tt) k) ∙
      among_cases (λ n. reading_of ed xs n ≡ place_of ed (text_of 6 xs) (text_of 7 xs) (text_of 8 xs)) 6 7 8 8 e refl refl refl refl k

  -- 16, 18, 28, 50: a sign gives the one amount of itself and the temperature after it
  pub reads_sign : (e : ℕ) → among 16 18 28 50 e ≡ true → reads xs e ≡ temperature (text_of e xs) (text_of (e + 1) xs)
  unfolding item_of is_departure is_coordinate is_sign is_temperature element page
  reads_sign e k =
      reads_each e (among_above 1 16 18 28 50 e (lit≤ tt) (lit≤ tt) (lit≤ tt) (lit≤ tt) k) (among_below 101 16 18 28 50 e (lit≤ tt) (lit≤ tt) (lit≤ tt) (lit≤ tt) k) ∙
      among_cases (λ n. reading_of ed xs n ≡ temperature (text_of n xs) (text_of (n + 1) xs)) 16 18 28 50 e refl refl refl refl k

  -- 17, 19, 29, 51: a temperature gives the one amount of itself and the sign before it
  pub reads_temperature : (e : ℕ) → among 17 19 29 51 e ≡ true → reads xs e ≡ temperature (text_of (e - 1) xs) (text_of e xs)
  unfolding item_of is_departure is_coordinate is_sign is_temperature element page
  reads_temperature e k =
      reads_each e (among_above 1 17 19 29 51 e (lit≤ tt) (lit≤ tt) (lit≤ tt) (lit≤ tt) k) (among_below 101 17 19 29 51 e (lit≤ tt) (lit≤ tt) (lit≤ tt) (lit≤ tt) k) ∙
      among_cases (λ n. reading_of ed xs n ≡ temperature (text_of (n - 1) xs) (text_of n xs)) 17 19 29 51 e refl refl refl refl k

  -- 91: an amount of its own, in metres
  pub reads_departure : reads xs 91 ≡ departure (text_of 91 xs)
  unfolding item_of is_departure is_coordinate is_sign is_temperature element page
  reads_departure = reads_each 91 (lit≤ tt) (lit≤ tt)

  -- any other element by itself
  pub reads_plain : (e : ℕ) → 1 ≤ e → e ≤ 101 → among 6 7 8 91 e ≡ false → among 16 18 28 50 e ≡ false → among 17 19 29 51 e ≡ false → reads xs e ≡ plain e (text_of e xs)
  unfolding item_of
  reads_plain e l h a b c =
      reads_each e l h ∙
      rw (coordinate_is e, not_second 6 7 8 91 e a, not_third 6 7 8 91 e a, temperature_is e, c, not_first 6 7 8 91 e a, sign_is e, b, departure_is e, not_fourth 6 7 8 91 e a)

  -- one that the edition lacks is missing
  pub reads_lacking : (e : ℕ) → last_of ed < e → e ≤ 101 → reads xs e ≡ Missing
  reads_lacking e h l = reads_each e (omega arith) l ∙ lacking ed xs e ((accepted_exactly xs ed).0 accepted).full h

-- a refused record
pub reads_refused : (xs : List ℕ) (r : Refusal) → checked xs ≡ Err r → (e : ℕ) → 1 ≤ e → e ≤ 101 → reads xs e ≡ Missing
unfolding read_after
reads_refused xs r refused e l h = rw refused (read_as_lem (λ i. Missing) e l h)
