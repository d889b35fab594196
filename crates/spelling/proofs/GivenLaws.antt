-- Readings that some legal texts give are given by the texts that the writer spells. Where the two texts differ it is because more than one text gives the
-- reading: a sign without its temperature reads as missing, and so do blanks; minus zero is zero. Assumes nothing.
use mathlib.Core.Path.{◌≡◌, refl, sym, ap, ◌∙◌}
use mathlib.Core.Bool.{Bool, true, false, ◌&&◌}
use mathlib.Core.Logic.{⊎_elim}
use mathlib.Core.List.{List, [], ◌∷◌}
use Prim.Native.Nat.{ℕ}
use borrow.Author.Tests.{eqb-true}
use lib.Dec.{eqb}
use lib.IntN.{pos}
use lib.ListN.{length}
use Rattle.text.specs.Bytes.{every, between, either, blank, number, value_from}
use Rattle.text.specs.declared.LegalTexts.TheVariants.{Within}
use Rattle.text.specs.LegalTexts.{allows}
use Rattle.text.proofs.Among.{either_half}
use Rattle.text.proofs.Ways.{and_first, and_second}
use Rattle.numerals.specs.Numerals.{spelled, spell, in_digits, in_blanks}
use Rattle.layout.specs.declared.Edition.{Edition}
use Rattle.layout.specs.Page.{element, page, width_of, legal_texts, may_be_blank, legal_text, is_sign, is_temperature}
use Rattle.layout.proofs.Elements.{blank_legal, allowed_legal}
use Rattle.layout.proofs.Holding.{Holds}
use Rattle.ties.specs.Ties.{place_tie, sign_tie}
use Rattle.ties.specs.Ties as Ties
use Rattle.reading.specs.declared.Kind.{Kind}
use Rattle.reading.specs.declared.Kind.TheVariants.{Measured, Computed}
use Rattle.reading.specs.declared.Reading.TheVariants.{Missing, Amount}
use Rattle.reading.specs.Readings.{temperature, place_of}
use Rattle.spelling.specs.Spelled.{amount_numeral, numeral_for}
use Rattle.spelling.proofs.BackLaws.{sign_back, value_back, digit_back, latitude_back, longitude_back}

-- a sign s and a temperature v, of which t and u are spelled
module _ (ed : Edition) (e f : ℕ) (s v t u : List ℕ) (g : is_sign e ≡ true) (n : is_sign f ≡ false) (k : is_temperature f ≡ true)
    (one : width_of e ≡ 1) (three : width_of f ≡ 3) (may-e : may_be_blank e ≡ true) (may-f : may_be_blank f ≡ true)
    (long-s : length s ≡ width_of e) (long-v : length v ≡ width_of f) (sign : Holds (either 0 2 5 7) s) (value : Holds (between 0 999) v)
    (lawful-s : legal_text ed e s ≡ true) (lawful-v : legal_text ed f v ≡ true)
    (zero_sign : allows (legal_texts ed e) (48 ∷ []) ≡ true) (five_sign : blank s ≡ false → number s ≡ 6 → allows (legal_texts ed e) (53 ∷ []) ≡ true) (values : legal_texts ed f ≡ Within 0 999)
    (p : t ≡ spell (width_of e) (numeral_for ed e (temperature s v))) (q : u ≡ spell (width_of f) (numeral_for ed f (temperature s v))) where
  abbrev Kept : Type 0
  Kept = (legal_text ed e t ≡ true) × ((legal_text ed f u ≡ true) × (temperature t u ≡ temperature s v))

  either_blank : temperature s v ≡ Missing → Kept
  unfolding numeral_for spelled every temperature
  either_blank m =
      let t' : t ≡ spell 1 in_blanks = p ∙ rw (one, m) in
      let u' : u ≡ spell 3 in_blanks = q ∙ rw (three, m) in
      (blank_legal ed e t may-e (rw t'), (blank_legal ed f u may-f (rw u'), rw t' (sym m)))

  as_tied : sign_tie s v ≡ true → Kept
  as_tied tied =
      let t' : t ≡ s = p ∙ sign_back ed s v tied e g long-s sign in
      let u' : u ≡ v = q ∙ value_back ed s v tied f n k long-v value in
      (ap (legal_text ed e) t' ∙ lawful-s, (ap (legal_text ed f) u' ∙ lawful-v, rw (t', u')))

  -- zero is zero, with a minus or without
  as_zero : (m : Kind) (d : ℕ) → temperature s v ≡ Amount (pos 0) m → spell 1 (in_digits d) ≡ spell 1 (numeral_for ed e (Amount (pos 0) m)) →
      allows (legal_texts ed e) (spell 1 (in_digits d)) ≡ true → temperature (spell 1 (in_digits d)) (spell 3 (in_digits 0)) ≡ Amount (pos 0) m → Kept
  unfolding numeral_for amount_numeral spelled allows value_from every
  as_zero m d r w a z =
      let t' : t ≡ spell 1 (in_digits d) = p ∙ rw (one, r) (sym w) in
      let u' : u ≡ spell 3 (in_digits 0) = q ∙ rw (three, r, n, k) in
      (allowed_legal ed e t (rw t' a), (allowed_legal ed f u (rw (u', values)), rw (t', u') (z ∙ sym r)))

  both_there : blank s ≡ false → blank v ≡ false → (m : Bool) → (Ties.minus (number s) && eqb (number v) 0) ≡ m → Kept
  unfolding sign_tie temperature numeral_for amount_numeral spelled value_from every
  both_there a b false h = as_tied (rw (a, b, h))
  both_there a b true h =
      let z : number v ≡ 0 = eqb-true _ _ (and_second (Ties.minus (number s)) _ h) in
      ⊎_elim
      (λ c. let d : number s ≡ 1 = eqb-true _ _ c in as_zero Measured 0 (rw (a, b, d, z)) (rw g) zero_sign refl)
      (λ c. let d : number s ≡ 6 = eqb-true _ _ c in as_zero Computed 5 (rw (a, b, d, z)) (rw g) (five_sign a d) refl)
      (either_half (eqb (number s) 1) (eqb (number s) 6) (and_first _ _ h))

  pub pair_kept : Kept
  unfolding temperature
  pair_kept = by (blank s) (blank v) refl refl
    where
      by : (x y : Bool) → blank s ≡ x → blank v ≡ y → Kept
      by true y a b = either_blank (rw a)
      by false true a b = either_blank (rw (a, b))
      by false false a b = both_there a b _ refl

-- the columns q, la and lo of a place, of which q', la' and lo' are spelled
module _ (ed : Edition) (q la lo q' la' lo' : List ℕ) (digit : ℕ → Bool) (long-q : length q ≡ width_of 6) (long-la : length la ≡ width_of 7) (long-lo : length lo ≡ width_of 8)
    (holds-q : Holds digit q) (holds-la : Holds (between 0 900) la) (holds-lo : Holds (between 0 1800) lo)
    (lawful-q : legal_text ed 6 q ≡ true) (lawful-la : legal_text ed 7 la ≡ true) (lawful-lo : legal_text ed 8 lo ≡ true)
    (d : q' ≡ spell (width_of 6) (numeral_for ed 6 (place_of ed q la lo))) (n : la' ≡ spell (width_of 7) (numeral_for ed 7 (place_of ed q la lo)))
    (w : lo' ≡ spell (width_of 8) (numeral_for ed 8 (place_of ed q la lo))) where
  abbrev Placed : Type 0
  Placed = (legal_text ed 6 q' ≡ true) × ((legal_text ed 7 la' ≡ true) × ((legal_text ed 8 lo' ≡ true) × (place_of ed q' la' lo' ≡ place_of ed q la lo)))

  any_blank : place_of ed q la lo ≡ Missing → Placed
  unfolding numeral_for spelled every place_of element page
  any_blank m =
      let x : q' ≡ spell 1 in_blanks = d ∙ rw m in
      let y : la' ≡ spell 3 in_blanks = n ∙ rw m in
      let z : lo' ≡ spell 4 in_blanks = w ∙ rw m in
      (blank_legal ed 6 q' refl (rw x), (blank_legal ed 7 la' refl (rw y), (blank_legal ed 8 lo' refl (rw z), rw x (sym m))))

  all_there : place_tie q la lo ≡ true → Placed
  all_there tied =
      let x : q' ≡ q = d ∙ digit_back ed q la lo tied digit long-q holds-q in
      let y : la' ≡ la = n ∙ latitude_back ed q la lo tied (between 0 900) long-la holds-la in
      let z : lo' ≡ lo = w ∙ longitude_back ed q la lo tied long-lo holds-lo in
      (ap (legal_text ed 6) x ∙ lawful-q, (ap (legal_text ed 7) y ∙ lawful-la, (ap (legal_text ed 8) z ∙ lawful-lo, rw (x, y, z))))

  pub place_kept : Placed
  unfolding place_of place_tie
  place_kept = by (blank q) (blank la) (blank lo) refl refl refl
    where
      by : (x y z : Bool) → blank q ≡ x → blank la ≡ y → blank lo ≡ z → Placed
      by true y z a b c = any_blank (rw a)
      by false true z a b c = any_blank (rw (a, b))
      by false false true a b c = any_blank (rw (a, b, c))
      by false false false a b c = all_there (rw (a, b, c))
