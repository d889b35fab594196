-- A record that is recast and recast back, over the records alone: on the way back nothing is lost; an element that was kept has its first characters and one that was lost is
-- blank; column 12 is the lowest digit that its edition has for the place. Assumes nothing.
use mathlib.Core.Path.{◌≡◌, refl, sym, ap, ◌∙◌}
use mathlib.Core.Logic.{◌⊎◌, inl, inr, ⊎_elim}
use mathlib.Core.Bool.{Bool, true, false, true≢false}
use mathlib.Core.List.{List, [], ◌∷◌}
use Prim.Native.Nat.{ℕ, ◌+◌, ◌-◌, ◌*◌, ◌≤◌}
use native.Mathlib.Omega.{arith}
use borrow.Author.Tests.{eqb-true, leb-true, leb-false}
use lib.Dec.{eqb, leb, lit≤}
use Rattle.text.specs.Bytes.{every, between, blank, digits, number, value_from}
use Rattle.text.proofs.Ranges.{least, greatest}
use Rattle.text.proofs.Ways.{and_first}
use Rattle.layout.specs.declared.Edition.{Edition}
use Rattle.layout.specs.declared.Edition.TheVariants.{One, Three, Four}
use Rattle.layout.specs.Editions.{last_of}
use Rattle.layout.specs.Page.{width_of, text_of, first_byte}
use Rattle.layout.proofs.Beyond.{last_above, text_none}
use Rattle.layout.proofs.Elements.{last_below}
use Rattle.layout.proofs.Holding.{Holds, empty, holds, in_digits_lem}
use Rattle.layout.proofs.RecordLaws.{begins, text_long, same_record}
use Rattle.places.specs.Column12.{keeps_tie, may_stand, lowest_digit, crosses}
use Rattle.places.proofs.DigitLaws.{is_digit_of, column_texts, digit_stands, crosses_back}
use Rattle.places.proofs.Demand3Digits.{digit_found}
use Rattle.places.proofs.Request13Digits.{same_lowest}
use Rattle.ties.specs.Ties.{octant_tie, tie}
use Rattle.checking.specs.Acceptable.{Acceptable}
use Rattle.checking.proofs.LegalLaws.{all_legal}
use Rattle.meanings.specs.Kept.{lost_at}
use Rattle.meanings.specs.Lost.{Expressible}
use Rattle.recasting.specs.Recast.{recast_record}
use Rattle.recasting.proofs.Request9Places.{standing, digit_number}
use Rattle.recasting.proofs.PlaceLaws.{six}
use Rattle.recasting.proofs.ResultLaws.{Plain, result_long, lost_blank}
use Rattle.recasting.proofs.ColumnLaws.{Column, stays, moves, column, not_both, crossed, same_there}
use Rattle.recasting.proofs.NeverLaws as Never
use Rattle.recasting.proofs.Demand3Accepted.{version_text, acceptable}
use Rattle.recasting.proofs.Demand3Meaning.{not_there, text_kept, blank_stays, kept_or_blank, lost_exactly}
use Rattle.recasting.proofs.Demand3Losses.{version_was}
use Rattle.recasting.proofs.FitLaws.{two_blanks}

-- a digit is its number, as it stands
as_standing : (b : ℕ) → digits (b ∷ []) ≡ true → (number (b ∷ []) ≤ 9) × (b ∷ [] ≡ standing (number (b ∷ [])))
unfolding every value_from
as_standing b d =
    let in_digits_lem : between 48 57 b ≡ true = and_first _ _ d in
    let low = least 48 57 b in_digits_lem in
    let high = greatest 48 57 b in_digits_lem in
    let same : b ≡ 48 + (0 * 10 + (b - 48)) = omega arith in
    (omega arith, ap (λ (n : ℕ). n ∷ []) same)

-- what is known of column 12 of an accepted record with a place
pub record OwnDigit (ed : Edition) (xs : List ℕ) : Type 0 where
  pub small : number (text_of 6 xs) ≤ 9
  pub as_it_stands : text_of 6 xs ≡ standing (number (text_of 6 xs))
  pub may_stand_lem : may_stand ed (number (text_of 6 xs)) ≡ true
  pub ties : keeps_tie ed (number (text_of 6 xs)) (number (text_of 8 xs)) ≡ true

tied_digit : (ed : Edition) (t u : List ℕ) → blank t ≡ false → octant_tie ed t u ≡ true → keeps_tie ed (number t) (number u) ≡ true
unfolding octant_tie
tied_digit One t u b h = rw b at h
tied_digit Three t u b h = refl
tied_digit Four t u b h = refl

pub own_digit : (ed : Edition) (xs : List ℕ) → Acceptable ed xs → blank (text_of 6 xs) ≡ false → OwnDigit ed xs
unfolding tie
own_digit ed xs a b = by (in_digits_lem (is_digit_of ed) ed xs 6 (column_texts ed (text_of 6 xs)) (a.lawful 6 (lit≤ tt) (omega (arith, last_above ed))))
  where
    one : text_of 6 xs ≡ first_byte 6 xs ∷ []
    one = six xs (omega (arith, a.full, begins ed 6 (lit≤ tt) (omega (arith, last_above ed))))

    by : Holds (is_digit_of ed) (text_of 6 xs) → OwnDigit ed xs
    by (empty e) = absurd (true≢false (sym e ∙ b))
    by (holds e d p) =
        let s = as_standing (first_byte 6 xs) (sym (ap digits one) ∙ d) in
        let small : number (text_of 6 xs) ≤ 9 = rw one s.0 in
        record {
          small = small;
          as_it_stands = rw one s.1;
          may_stand_lem = digit_stands ed (number (text_of 6 xs)) small ∙ p;
          ties = tied_digit ed (text_of 6 xs) (text_of 8 xs) b (a.tied 2);
        }

module _ (from to : Edition) (xs : List ℕ) (a : Acceptable from xs) where
  abbrev pub there : List ℕ
  there = recast_record from to xs

  pub fine_there : Acceptable to there
  fine_there = acceptable from to xs a

  abbrev pub home : List ℕ
  home = recast_record to from there

  -- the first edition has a legal text with the meaning of each element that is filled on the way: the record that set out
  sayable : (e : ℕ) → 1 ≤ e → e ≤ 101 → eqb e 65 ≡ false → blank (text_of e there) ≡ false → Expressible to from there e
  sayable e h l o b = record {
    text = xs;
    full = a.full;
    lawful = λ f m n s. all_legal from xs a f m;
    means = ⊎_elim (λ m. sym m) (λ c. absurd (true≢false (sym c ∙ b))) (kept_or_blank from to xs a e h l o);
  }

  pub nothing_lost : (e : ℕ) → 1 ≤ e → e ≤ 101 → lost_at to from there e ≡ false
  nothing_lost e h l = by (eqb e 65) (lost_at to from there e) refl refl
    where
      by : (x y : Bool) → eqb e 65 ≡ x → lost_at to from there e ≡ y → lost_at to from there e ≡ false
      by true y p q = rw (eqb-true e 65 p) (Never.version to from there fine_there)
      by false true p q =
          let lost = (lost_exactly to from there fine_there e h l p).0 q in
          absurd (lost.none (sayable e h l p (not_there (text_of e there) lost.filled)))
      by false false p q = q

  -- an element that was not lost on the way has its first characters, and one that was is blank
  module _ (e : ℕ) (plain : Plain e) (h : 1 ≤ e) (l : e ≤ 101) where
    stays_blank : blank (text_of e there) ≡ true → blank (text_of e home) ≡ true
    stays_blank b = blank_stays to from there fine_there e h l plain.1 b (nothing_lost e h l)

    blank_again : blank (text_of e xs) ≡ true → blank (text_of e home) ≡ true → text_of e home ≡ text_of e xs
    blank_again b c = by (leb e (last_of from)) refl
      where
        by : (x : Bool) → leb e (last_of from) ≡ x → text_of e home ≡ text_of e xs
        by true f =
            let held = leb-true _ _ f in
            two_blanks (width_of e) (text_of e home) (text_of e xs) (text_long from home (result_long to from there fine_there) e held) (text_long from xs a.full e held) c b
        by false f =
            let past = leb-false _ _ f in
            text_none from home (result_long to from there fine_there) e past ∙ sym (text_none from xs a.full e past)

    pub lost_home : lost_at from to xs e ≡ true → blank (text_of e home) ≡ true
    lost_home k = stays_blank (lost_blank from to xs a e plain h k)

    pub text_home : lost_at from to xs e ≡ false → text_of e home ≡ text_of e xs
    text_home k = by (blank (text_of e xs)) refl
      where
        by : (x : Bool) → blank (text_of e xs) ≡ x → text_of e home ≡ text_of e xs
        by true b = blank_again b (stays_blank (blank_stays from to xs a e h l plain.1 b k))
        by false b =
            let kept = text_kept from to xs a e h l plain.1 plain.0 b k in
            text_kept to from there fine_there e h l plain.1 plain.0 (ap blank kept ∙ b) (nothing_lost e h l) ∙ kept

  pub version_home : text_of 65 home ≡ text_of 65 xs
  version_home = version_text to from there fine_there ∙ sym (version_was from xs a)

  -- column 12 between editions that do not cross, and a blank one
  pub six_stays : (crosses from to ≡ false) ⊎ (blank (text_of 6 xs) ≡ true) → text_of 6 home ≡ text_of 6 xs
  six_stays w = by (column from to xs a) (column to from there fine_there)
    where
      by : Column from to xs a → Column to from there fine_there → text_of 6 home ≡ text_of 6 xs
      by (stays v e) (stays u f) = f ∙ e
      by (moves c b f e) g = absurd (not_both from to xs a w c b)
      by (stays v e) (moves c b g f) = absurd (not_both from to xs a w (sym (crosses_back from to) ∙ c) (sym (same_there from to xs a) ∙ b))

  -- and between those that do
  module _ (c : crosses from to ≡ true) (b : blank (text_of 6 xs) ≡ false) where
    number_there : number (text_of 6 there) ≡ (digit_found from to (number (text_of 6 xs)) (number (text_of 7 xs)) (number (text_of 8 xs))).digit
    number_there =
        let f = digit_found from to (number (text_of 6 xs)) (number (text_of 7 xs)) (number (text_of 8 xs)) in
        ap number (crossed from to xs a c b ∙ ap (λ (n : ℕ). n ∷ []) f.is) ∙ digit_number f.digit

    -- the lowest digits for the place on the way and for the place that set out are the same
    pub lowest_alike : (ed : Edition) →
        lowest_digit to ed (number (text_of 6 there)) (number (text_of 7 there)) (number (text_of 8 there)) ≡ lowest_digit from ed (number (text_of 6 xs)) (number (text_of 7 xs)) (number (text_of 8 xs))
    lowest_alike ed =
        let f = digit_found from to (number (text_of 6 xs)) (number (text_of 7 xs)) (number (text_of 8 xs)) in
        rw (number_there, Never.same from to xs a 7 refl, Never.same from to xs a 8 refl)
        (sym (same_lowest from to (number (text_of 6 xs)) f.digit (number (text_of 7 xs)) (number (text_of 8 xs)) f.same ed))

    pub six_home : text_of 6 home ≡ lowest_digit from from (number (text_of 6 xs)) (number (text_of 7 xs)) (number (text_of 8 xs)) ∷ []
    six_home = crossed to from there fine_there (crosses_back from to ∙ c) (same_there from to xs a ∙ b) ∙ ap (λ (n : ℕ). n ∷ []) (lowest_alike from)

  -- where nothing is lost on the way and column 12 has its digit again, the record that comes home is the one that set out
  pub comes_whole : ((e : ℕ) → 1 ≤ e → e ≤ 101 → lost_at from to xs e ≡ false) → text_of 6 home ≡ text_of 6 xs → home ≡ xs
  comes_whole none same_six = same_record from home xs same (result_long to from there fine_there) a.full
    where
      same : (e : ℕ) → 1 ≤ e → e ≤ last_of from → text_of e home ≡ text_of e xs
      same e h l = by (eqb e 6) (eqb e 65) refl refl
        where
          l' : e ≤ 101
          l' = omega (arith, last_below from)

          by : (x y : Bool) → eqb e 6 ≡ x → eqb e 65 ≡ y → text_of e home ≡ text_of e xs
          by true y p q = rw (eqb-true e 6 p) same_six
          by false true p q = rw (eqb-true e 65 q) version_home
          by false false p q = text_home e (p, q) h l' (none e h l')

-- there, back and there again is there
pub there_again : (from to : Edition) (xs : List ℕ) (a : Acceptable from xs) → recast_record from to (home from to xs a) ≡ there from to xs a
there_again from to xs a = comes_whole to from (there from to xs a) (fine_there from to xs a) (nothing_lost from to xs a) (by (crosses from to) (blank (text_of 6 xs)) refl refl)
  where
    by : (x y : Bool) → crosses from to ≡ x → blank (text_of 6 xs) ≡ y → text_of 6 (recast_record from to (home from to xs a)) ≡ text_of 6 (there from to xs a)
    by false y p q = six_stays to from (there from to xs a) (fine_there from to xs a) (inl (crosses_back from to ∙ p))
    by true true p q = six_stays to from (there from to xs a) (fine_there from to xs a) (inr (same_there from to xs a ∙ q))
    by true false p q =
        six_home to from (there from to xs a) (fine_there from to xs a) (crosses_back from to ∙ p) (same_there from to xs a ∙ q) ∙
        ap (λ (n : ℕ). n ∷ []) (lowest_alike from to xs a p q to) ∙ sym (crossed from to xs a p q)
