-- What some legal texts give, the texts that are spelled give: element by element, with those that share its reading. Assumes nothing.
use Rattle.layout.proofs.PartLaws.{coordinate_cases, sign_cases, temperature_cases, departure_is}
use mathlib.Core.Path.{◌≡◌, refl, sym, ap, ◌∙◌}
use mathlib.Core.Bool.{Bool, true, false, true≢false}
use mathlib.Core.Logic.{⊎_elim}
use mathlib.Core.List.{List, [], ◌∷◌}
use Prim.Native.Nat.{ℕ, ◌+◌, ◌≤◌}
use native.Mathlib.Omega.{arith}
use borrow.Author.Tests.{leb-true, leb-false}
use lib.Dec.{eqb, leb, lit≤}
use lib.ListN.{length}
use Rattle.text.specs.Bytes.{every, between, blank, number, value_from}
use Rattle.text.specs.declared.LegalTexts.TheVariants.{Within}
use Rattle.text.specs.LegalTexts.{allows}
use Rattle.numerals.specs.Numerals.{spell}
use Rattle.text.proofs.Ranges.{greatest}
use Rattle.text.proofs.Among.{at_number}
use Rattle.layout.specs.declared.Edition.{Edition}
use Rattle.layout.specs.Editions.{last_of}
use Rattle.layout.specs.Page.{element, page, width_of, text_of, legal_texts, may_be_blank, legal_text, legal, is_departure, is_coordinate, is_sign, is_temperature, is_text}
use Rattle.layout.proofs.Beyond.{last_above, text_none}
use Rattle.layout.proofs.Elements.{last_below, in_each}
use Rattle.layout.proofs.Holding.{Holds, empty, holds, in_digits_lem, within}
use Rattle.places.proofs.DigitLaws.{is_digit_of, column_texts}
use Rattle.reading.specs.declared.Reading.{Reading}
use Rattle.reading.specs.Readings.{temperature, departure, plain, place_of, lead, item_of, reading_of}
use Rattle.reading.proofs.ReadingLaws.{lead_is, lead_of_lead}
use Rattle.spelling.specs.Spelled.{numeral_for, given, record_of}
use Rattle.spelling.proofs.SameLaws.{same_self}
use Rattle.spelling.proofs.RecordLaws.{record_long, record_text}
use Rattle.spelling.proofs.BackLaws.{plain_back, departure_back}
use Rattle.spelling.proofs.ElementLaws.{sign_texts, value_texts, signs, values, departures}
use Rattle.spelling.proofs.GivenLaws.{pair_kept, place_kept}
use Rattle.writing.specs.Written.{writes}
use Rattle.writing.specs.Givable.{Givable}
use Rattle.layout.proofs.RecordLaws.{text_long}
use Rattle.checking.proofs.PrintLaws.{legal_prints}

-- no sign of the air or the sea is 6
no_six : {A : Type 0} (t : List ℕ) → Holds (between 0 1) t → blank t ≡ false → number t ≡ 6 → A
no_six t (empty b) a n = absurd (true≢false (sym b ∙ a))
no_six t (holds b d p) a n = let l = greatest 0 1 (number t) p in absurd (omega arith)

module _ (ed : Edition) (rs : List Reading) (e : ℕ) (g : Givable ed rs e) where
  abbrev xs : List ℕ
  xs = g.text

  abbrev ys : List ℕ
  ys = record_of ed rs

  -- what is spelled for an element that shares its reading with e
  spelled_text : (f : ℕ) → 1 ≤ f → f ≤ last_of ed → lead f ≡ lead e → text_of f ys ≡ spell (width_of f) (numeral_for ed f (reading_of ed xs f))
  spelled_text f l h s =
      let low = lead_is f l in
      let reads : given rs (lead f) ≡ reading_of ed xs f =
      sym (g.reads (lead f) low.low (omega (arith, low.high, last_below ed)) (lead_of_lead f ∙ s)) ∙ ap (item_of ed xs) (lead_of_lead f) in
      record_text ed rs f l h ∙ ap (λ (r : Reading). spell (width_of f) (numeral_for ed f r)) reads

  abbrev Kept : ℕ → Type 0
  Kept f = (legal ed ys f ≡ true) × (reading_of ed ys f ≡ reading_of ed xs f)

  abbrev Sharing : ℕ → Type 0
  Sharing f = f ≤ 101 → lead f ≡ lead e → Kept f

  lawful : (f : ℕ) → 1 ≤ f → f ≤ 101 → lead f ≡ lead e → legal_text ed f (text_of f xs) ≡ true
  unfolding legal
  lawful f l h s = g.lawful f l h s

  held : (f : ℕ) → f ≤ 85 → f ≤ last_of ed
  held f h = omega (arith, last_above ed)

  long : (f : ℕ) → f ≤ 85 → length (text_of f xs) ≡ width_of f
  long f h = text_long ed xs g.full f (held f h)

  -- column 12, latitude and longitude
  places : 6 ≡ lead e →
      (legal_text ed 6 (text_of 6 ys) ≡ true) × ((legal_text ed 7 (text_of 7 ys) ≡ true) × ((legal_text ed 8 (text_of 8 ys) ≡ true) ×
      (place_of ed (text_of 6 ys) (text_of 7 ys) (text_of 8 ys) ≡ place_of ed (text_of 6 xs) (text_of 7 xs) (text_of 8 xs))))
  unfolding item_of element page legal is_coordinate is_temperature
  places s =
      place_kept ed (text_of 6 xs) (text_of 7 xs) (text_of 8 xs) (text_of 6 ys) (text_of 7 ys) (text_of 8 ys) (is_digit_of ed)
      (long 6 (lit≤ tt)) (long 7 (lit≤ tt)) (long 8 (lit≤ tt))
      (in_digits_lem (is_digit_of ed) ed xs 6 (column_texts ed (text_of 6 xs)) (lawful 6 (lit≤ tt) (lit≤ tt) s))
      (within ed xs 0 900 7 (in_each ed 7 (Within 0 900) refl refl refl) (lawful 7 (lit≤ tt) (lit≤ tt) s))
      (within ed xs 0 1800 8 (in_each ed 8 (Within 0 1800) refl refl refl) (lawful 8 (lit≤ tt) (lit≤ tt) s))
      (lawful 6 (lit≤ tt) (lit≤ tt) s)
      (lawful 7 (lit≤ tt) (lit≤ tt) s)
      (lawful 8 (lit≤ tt) (lit≤ tt) s)
      (spelled_text 6 (lit≤ tt) (held 6 (lit≤ tt)) s)
      (spelled_text 7 (lit≤ tt) (held 7 (lit≤ tt)) s)
      (spelled_text 8 (lit≤ tt) (held 8 (lit≤ tt)) s)

  kept_6 : Sharing 6
  unfolding item_of legal is_coordinate is_temperature element page
  kept_6 h s = let r = places s in (r.0, r.1.1.1)

  kept_7_8 : (f : ℕ) → is_coordinate f ≡ true → Sharing f
  unfolding item_of legal is_coordinate is_temperature element page
  kept_7_8 f = coordinate_cases Sharing f kept_7 kept_8
    where
      kept_7 : Sharing 7
      kept_7 h s = let r = places s in (r.1.0, r.1.1.1)

      kept_8 : Sharing 8
      kept_8 h s = let r = places s in (r.1.1.0, r.1.1.1)

  -- where zero is written the sign is 0, or 5 for a minus that was computed, and that may stand there too
  zero_sign : (a : ℕ) → is_sign a ≡ true → allows (legal_texts ed a) (48 ∷ []) ≡ true
  unfolding allows value_from every
  zero_sign a g = ⊎_elim (λ t. rw t) (λ t. rw t) (sign_texts ed a g)

  five_sign : (a : ℕ) → is_sign a ≡ true → legal ed xs a ≡ true → blank (text_of a xs) ≡ false → number (text_of a xs) ≡ 6 → allows (legal_texts ed a) (53 ∷ []) ≡ true
  unfolding allows value_from every
  five_sign a g l there six = ⊎_elim (λ t. no_six (text_of a xs) (within ed xs 0 1 a t l) there six) (λ t. rw t) (sign_texts ed a g)

  -- a sign and its temperature
  pair : (a b : ℕ) → lead a ≡ lead e → lead b ≡ lead e → is_sign a ≡ true → is_sign b ≡ false → is_temperature b ≡ true →
      width_of a ≡ 1 → width_of b ≡ 3 → may_be_blank a ≡ true → may_be_blank b ≡ true → 1 ≤ a → a ≤ 85 → 1 ≤ b → b ≤ 85 →
      ((zs : List ℕ) → reading_of ed zs a ≡ temperature (text_of a zs) (text_of b zs)) → ((zs : List ℕ) → reading_of ed zs b ≡ temperature (text_of a zs) (text_of b zs)) → Kept a × Kept b
  unfolding legal
  pair a b s t g n k one three may-a may-b la ha lb hb ra rb =
      let sign = lawful a la (omega arith) s in
      let value = lawful b lb (omega arith) t in
      let both =
      pair_kept ed a b (text_of a xs) (text_of b xs) (text_of a ys) (text_of b ys) g n k one three may-a may-b (long a ha) (long b hb) (signs ed xs a g sign) (values ed xs b k value) sign value
      (zero_sign a g) (five_sign a g sign) (value_texts ed b k)
      (spelled_text a la (held a ha) s ∙ ap (λ (r : Reading). spell (width_of a) (numeral_for ed a r)) (ra xs))
      (spelled_text b lb (held b hb) t ∙ ap (λ (r : Reading). spell (width_of b) (numeral_for ed b r)) (rb xs)) in
      ((both.0, ra ys ∙ both.1.1 ∙ sym (ra xs)), (both.1.0, rb ys ∙ both.1.1 ∙ sym (rb xs)))

  -- of the air, the dew point, the sea and the wet bulb
  pairs : (a : ℕ) → is_sign a ≡ true → lead a ≡ lead e → Kept a × Kept (a + 1)
  unfolding item_of element page is_coordinate is_sign is_temperature
  pairs a = sign_cases (λ k. lead k ≡ lead e → Kept k × Kept (k + 1)) a
      (λ s. pair 16 17 s s refl refl refl refl refl refl refl (lit≤ tt) (lit≤ tt) (lit≤ tt) (lit≤ tt) (λ _. refl) (λ _. refl))
      (λ s. pair 18 19 s s refl refl refl refl refl refl refl (lit≤ tt) (lit≤ tt) (lit≤ tt) (lit≤ tt) (λ _. refl) (λ _. refl))
      (λ s. pair 28 29 s s refl refl refl refl refl refl refl (lit≤ tt) (lit≤ tt) (lit≤ tt) (lit≤ tt) (λ _. refl) (λ _. refl))
      (λ s. pair 50 51 s s refl refl refl refl refl refl refl (lit≤ tt) (lit≤ tt) (lit≤ tt) (lit≤ tt) (λ _. refl) (λ _. refl))

  kept_values : (f : ℕ) → is_temperature f ≡ true → Sharing f
  unfolding is_coordinate is_sign is_temperature element page
  kept_values f = temperature_cases Sharing f (λ h s. (pairs 16 refl s).1) (λ h s. (pairs 18 refl s).1) (λ h s. (pairs 28 refl s).1) (λ h s. (pairs 50 refl s).1)

  -- an element that shares its reading with none: the text is the same, also where the edition has no columns for it
  same_text_lem : (f : ℕ) → (f ≤ last_of ed → text_of f ys ≡ text_of f xs) → text_of f ys ≡ text_of f xs
  same_text_lem f k = by (leb f (last_of ed)) refl
    where
      by : (t : Bool) → leb f (last_of ed) ≡ t → text_of f ys ≡ text_of f xs
      by true h = k (leb-true _ _ h)
      by false h = text_none ed ys (record_long ed rs) f (leb-false _ _ h) ∙ sym (text_none ed xs g.full f (leb-false _ _ h))

  departed : Sharing 91
  unfolding item_of legal is_text is_departure is_coordinate is_sign is_temperature element page
  departed h s =
      let same : text_of 91 ys ≡ text_of 91 xs = same_text_lem 91
      (λ l. spelled_text 91 (lit≤ tt) l s ∙ departure_back ed (text_of 91 xs) (text_long ed xs g.full 91 l) (departures ed xs l (lawful 91 (lit≤ tt) h s))) in
      (ap (legal_text ed 91) same ∙ lawful 91 (lit≤ tt) h s, ap departure same)

  alone : (f : ℕ) → 1 ≤ f → reading_of ed xs f ≡ plain f (text_of f xs) → reading_of ed ys f ≡ plain f (text_of f ys) → Sharing f
  unfolding legal
  alone f l i j h s =
      let same : text_of f ys ≡ text_of f xs = same_text_lem f
      (λ m. spelled_text f l m s ∙ ap (λ (r : Reading). spell (width_of f) (numeral_for ed f r)) i ∙
      plain_back ed f (text_of f xs) (text_long ed xs g.full f m) (legal_prints ed xs f (lawful f l h s))) in
      (ap (legal_text ed f) same ∙ lawful f l h s, j ∙ ap (plain f) same ∙ sym i)

  kept : (f : ℕ) → 1 ≤ f → Sharing f
  unfolding item_of
  kept f l h s = by (is_coordinate f) (is_temperature f) (eqb f 6) (is_sign f) (is_departure f) refl refl refl refl refl
    where
      by : (p q r t u : Bool) → is_coordinate f ≡ p → is_temperature f ≡ q → eqb f 6 ≡ r → is_sign f ≡ t → is_departure f ≡ u → Kept f
      by true q r t u a b c d i = kept_7_8 f a h s
      by false true r t u a b c d i = kept_values f b h s
      by false false true t u a b c d i = at_number Sharing f 6 c kept_6 h s
      by false false false true u a b c d i = (pairs f d s).0
      by false false false false true a b c d i = at_number Sharing f 91 (sym (departure_is f) ∙ i) departed h s
      by false false false false false a b c d i = alone f l (rw (a, b, c, d, i)) (rw (a, b, c, d, i)) h s

  -- what some legal texts give, the texts that are spelled give
  pub given_writes : (f : ℕ) → 1 ≤ f → f ≤ 101 → lead f ≡ lead e → writes ed rs (record_of ed rs) f ≡ true
  unfolding writes
  given_writes f l h s =
      let k = kept f l h s in
      let reads : reading_of ed ys f ≡ given rs f = k.1 ∙ g.reads f l h s in
      rw (k.0, reads) (same_self (given rs f))
