-- Demand 2: which ties a write can break. Readings say one thing of a place and of a temperature, so ties 1 and 3 to 6 hold of what is spelled from them; the
-- others are between readings, and Demand2TiesBroken breaks each. Assumes nothing.
use Rattle.std.proofs.Common.{Err}
use mathlib.Core.Path.{◌≡◌, refl, sym, ap, ◌∙◌}
use mathlib.Core.Bool.{Bool, true, false, ◌&&◌, ◌||◌, true≢false}
use mathlib.Core.Logic.{⊎_elim}
use mathlib.Core.List.{List, [], ◌∷◌}
use Prim.Native.Nat.{ℕ, zero, suc, ◌+◌, ◌<◌, ◌≤◌}
use native.Mathlib.Omega.{arith}
use borrow.Author.Tests.{eqb-true}
use lib.Dec.{eqb, lit≤}
use lib.IntN.{pos}
use lib.ListN.{length}
use Rattle.text.specs.Bytes.{every, blank, number, value_from}
use Rattle.text.specs.LegalTexts.{among, member}
use Rattle.text.proofs.Among.{either_half, at_number, among_cases}
use Rattle.text.proofs.Below.{every_below, passes_below}
use Rattle.text.proofs.Ways.{and_first, and_second, decide}
use Rattle.numerals.specs.Numerals.{spelled, spell, in_digits, in_blanks}
use Rattle.layout.specs.declared.Edition.{Edition}
use Rattle.refusals.specs.declared.Refusal.TheVariants.{Broken}
use Rattle.refusals.proofs.LentLaws.{by_its_rules}
use Rattle.refusals.specs.Lent.{verdict_in, Call, refusing, Quiet}
use Rattle.layout.specs.Page.{element, page, width_of, text_of, is_sign, is_coordinate, is_temperature}
use Rattle.layout.proofs.Beyond.{last_above}
use Rattle.ties.specs.Ties.{place_tie, sign_tie, tie}
use Rattle.ties.specs.Ties as Ties
use Rattle.ties.proofs.TieLaws.{broken_past_zero, broken_listed}
use Rattle.reading.specs.declared.Kind.{Kind}
use Rattle.reading.specs.declared.Kind.TheVariants.{Measured, Computed}
use Rattle.reading.specs.declared.Reading.{Reading}
use Rattle.reading.specs.declared.Reading.TheVariants.{Missing, Amount}
use Rattle.reading.specs.Readings.{temperature, place_of, item_of, reading_of}
use Rattle.spelling.specs.Spelled.{amount_numeral, numeral_for, record_of}
use Rattle.writing.specs.Written.{writes, written_in}
use Rattle.writing.proofs.EachLaws.{own_text}
use Rattle.writing.proofs.DoneLaws.{Judged, unwritable, breaking, kept, judged}

-- the ties within a reading, which says one thing of a place or of a temperature; and those between readings
abbrev pub within_readings : ℕ → Bool
within_readings k = eqb k 1 || among 3 4 5 6 k

abbrev pub between_readings : List ℕ
between_readings = 2 ∷ 7 ∷ 8 ∷ 9 ∷ 10 ∷ []

-- a sign and a temperature that are spelled from what they read as
module _ (ed : Edition) (e f : ℕ) (s v : List ℕ) (g : is_sign e ≡ true) (one : width_of e ≡ 1) (three : width_of f ≡ 3)
    (p : s ≡ spell (width_of e) (numeral_for ed e (temperature s v))) (q : v ≡ spell (width_of f) (numeral_for ed f (temperature s v))) where
  both_blank : temperature s v ≡ Missing → sign_tie s v ≡ true
  unfolding numeral_for sign_tie spelled value_from every
  both_blank m =
      let t : s ≡ spell 1 in_blanks = p ∙ rw (one, m) in
      let u : v ≡ spell 3 in_blanks = q ∙ rw (three, m) in
      rw (t, u)

  -- zero is written without a minus
  no_minus : (k : Kind) (n : ℕ) → temperature s v ≡ Amount (pos 0) k → spell 1 (in_digits n) ≡ spell 1 (numeral_for ed e (Amount (pos 0) k)) → number s ≡ number (spell 1 (in_digits n))
  no_minus k n m t = ap number (p ∙ rw (one, m) (sym t))

  both_there : blank s ≡ false → blank v ≡ false → (m : Bool) → (Ties.minus (number s) && eqb (number v) 0) ≡ m → sign_tie s v ≡ true
  unfolding sign_tie temperature numeral_for amount_numeral spelled value_from
  both_there a b false h = rw (a, b, h)
  both_there a b true h =
      let z : number v ≡ 0 = eqb-true _ _ (and_second (Ties.minus (number s)) _ h) in
      absurd (⊎_elim
      (λ k. let n : number s ≡ 1 = eqb-true _ _ k in let o = no_minus Measured 0 (rw (a, b, n, z)) (rw g) in omega arith)
      (λ k. let n : number s ≡ 6 = eqb-true _ _ k in let o = no_minus Computed 5 (rw (a, b, n, z)) (rw g) in omega arith)
      (either_half (eqb (number s) 1) (eqb (number s) 6) (and_first _ _ h)))

  pub sign_tied : sign_tie s v ≡ true
  unfolding temperature
  sign_tied = by (blank s) (blank v) refl refl
    where
      by : (x y : Bool) → blank s ≡ x → blank v ≡ y → sign_tie s v ≡ true
      by true y a b = both_blank (rw a)
      by false true a b = both_blank (rw (a, b))
      by false false a b = both_there a b _ refl

-- the columns of a place that are spelled from what they read as
module _ (ed : Edition) (q la lo : List ℕ) (d : q ≡ spell (width_of 6) (numeral_for ed 6 (place_of ed q la lo))) (n : la ≡ spell (width_of 7) (numeral_for ed 7 (place_of ed q la lo)))
    (w : lo ≡ spell (width_of 8) (numeral_for ed 8 (place_of ed q la lo))) where
  all_blank : place_of ed q la lo ≡ Missing → place_tie q la lo ≡ true
  unfolding numeral_for place_tie spelled value_from every element page
  all_blank m =
      let x : q ≡ spell 1 in_blanks = d ∙ rw m in
      let y : la ≡ spell 3 in_blanks = n ∙ rw m in
      let z : lo ≡ spell 4 in_blanks = w ∙ rw m in
      rw (x, y, z)

  pub place_tied : place_tie q la lo ≡ true
  unfolding place_of place_tie
  place_tied = by (blank q) (blank la) (blank lo) refl refl refl
    where
      by : (x y z : Bool) → blank q ≡ x → blank la ≡ y → blank lo ≡ z → place_tie q la lo ≡ true
      by true y z a b c = all_blank (rw a)
      by false true z a b c = all_blank (rw (a, b))
      by false false true a b c = all_blank (rw (a, b, c))
      by false false false a b c = rw (a, b, c)

module _ (ed : Edition) (rs : List Reading) (each : (e : ℕ) → 1 ≤ e → e < 1 + 101 → writes ed rs (record_of ed rs) e ≡ true) where
  abbrev Text : ℕ → List ℕ
  Text e = text_of e (record_of ed rs)

  text : (e : ℕ) → 1 ≤ e → e ≤ 51 → Text e ≡ spell (width_of e) (numeral_for ed e (reading_of ed (record_of ed rs) e))
  text e l h = own_text ed rs each e l (omega (arith, last_above ed))

  pair : (e f : ℕ) → is_sign e ≡ true → width_of e ≡ 1 → width_of f ≡ 3 → 1 ≤ e → e ≤ 51 → 1 ≤ f → f ≤ 51 →
      reading_of ed (record_of ed rs) e ≡ temperature (Text e) (Text f) → reading_of ed (record_of ed rs) f ≡ temperature (Text e) (Text f) → sign_tie (Text e) (Text f) ≡ true
  pair e f g one three a b c d i j =
      sign_tied ed e f (Text e) (Text f) g one three
      (text e a b ∙ ap (λ (r : Reading). spell (width_of e) (numeral_for ed e r)) i)
      (text f c d ∙ ap (λ (r : Reading). spell (width_of f) (numeral_for ed f r)) j)

  abbrev Tied : ℕ → Type 0
  Tied k = tie ed (record_of ed rs) k ≡ true

  -- where every reading could be written, ties 1 and 3 to 6 hold
  pub ties_kept : (k : ℕ) → within_readings k ≡ true → Tied k
  unfolding tie item_of element page is_coordinate is_sign is_temperature
  ties_kept k h =
      ⊎_elim
      (λ one. at_number Tied k 1 one (place_tied ed (Text 6) (Text 7) (Text 8) (text 6 (lit≤ tt) (lit≤ tt)) (text 7 (lit≤ tt) (lit≤ tt)) (text 8 (lit≤ tt) (lit≤ tt))))
      (among_cases Tied 3 4 5 6 k
      (pair 16 17 refl refl refl (lit≤ tt) (lit≤ tt) (lit≤ tt) (lit≤ tt) refl refl)
      (pair 18 19 refl refl refl (lit≤ tt) (lit≤ tt) (lit≤ tt) (lit≤ tt) refl refl)
      (pair 28 29 refl refl refl (lit≤ tt) (lit≤ tt) (lit≤ tt) (lit≤ tt) refl refl)
      (pair 50 51 refl refl refl (lit≤ tt) (lit≤ tt) (lit≤ tt) (lit≤ tt) refl refl))
      (either_half (eqb k 1) (among 3 4 5 6 k) h)

-- every tie is of the one kind or of the other
module _ (ed : Edition) (xs : List ℕ) where
  either_kind : every_below (length (Ties.ties ed xs)) (λ k. within_readings (suc k) || member (suc k) between_readings) ≡ true
  unfolding member
  either_kind = refl

  other_kind : (k : ℕ) → tie ed xs k ≡ false → within_readings k ≡ false → member k between_readings ≡ true
  other_kind zero x n = absurd (omega (arith, broken_past_zero ed xs 0 x))
  other_kind (suc k) x n =
      ⊎_elim (λ y. absurd (true≢false (sym y ∙ n))) (λ y. y)
      (either_half (within_readings (suc k)) _ (passes_below (length (Ties.ties ed xs)) (λ k. within_readings (suc k) || member (suc k) between_readings) either_kind k (broken_listed ed xs (suc k) x)))

-- write breaks no tie but those between readings
pub breaks_only : (ed : Edition) (rs : List Reading) (room k : ℕ) → verdict_in room (written_in ed rs) ≡ Err (Broken k) → member k between_readings ≡ true
breaks_only ed rs room k e = by _ (judged ed rs) (by_its_rules room (Broken k) (λ f. let z : ◌≡◌ {A = ℕ} 0 1 = cc in omega arith) (written_in ed rs) e)
  where
    by : (c : Call Quiet) → Judged ed rs c → c ≡ refusing (Broken k) → member k between_readings ≡ true
    by c (unwritable m a b x f) e = let z : ◌≡◌ {A = ℕ} 0 1 = cc in absurd (omega arith)
    by c (breaking f m x g) e =
        let here : k ≡ m = cc in
        ap (λ (n : ℕ). member n between_readings) here ∙
        decide (within_readings m) (λ s. absurd (true≢false (sym (ties_kept ed rs f m s) ∙ x))) (other_kind ed (record_of ed rs) m x)
    by c (kept f g) e = let z : ◌≡◌ {A = ℕ} 0 1 = cc in absurd (omega arith)
