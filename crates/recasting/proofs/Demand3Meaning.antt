-- Demand 3: each element but column 111 keeps its meaning or is blank, and is blank exactly when the target has no legal text with that meaning. Assumes nothing.
use Rattle.layout.proofs.PartLaws.{coordinate_cases, sign_cases, temperature_cases}
use mathlib.Core.Path.{◌≡◌, refl, sym, ap, ◌∙◌}
use mathlib.Core.Logic.{◌⊎◌, inl, inr, ◌↔◌, ⊎_elim}
use mathlib.Core.Bool.{Bool, true, false, cond, not, ◌&&◌, ◌||◌, true≢false}
use mathlib.Core.List.{List, []}
use Prim.Native.Nat.{ℕ, ◌≤◌}
use borrow.Author.Tests.{eqb-true, eq-eqb, leb-true, leb-false}
use lib.Dec.{eqb, leb}
use Rattle.text.specs.Bytes.{every, blank, number}
use Rattle.text.specs.LegalTexts.{allows}
use Rattle.text.proofs.Ways.{and_first}
use Rattle.text.proofs.Among.{either_half, at_number, neither_first}
use Rattle.layout.specs.declared.Edition.{Edition}
use Rattle.layout.specs.Editions.{last_of}
use Rattle.layout.specs.Page.{text_of, legal_texts, may_be_blank, legal, is_coordinate, is_sign, is_temperature, element, page}
use Rattle.layout.proofs.Beyond.{text_none}
use Rattle.places.specs.declared.Place.{Place}
use Rattle.places.specs.Column12.{crosses}
use Rattle.places.proofs.DigitLaws.{alike_places}
use Rattle.ties.specs.Ties.{there}
use Rattle.checking.specs.Acceptable.{Acceptable}
use Rattle.checking.proofs.LegalLaws.{all_legal}
use Rattle.reading.specs.declared.Reading.TheVariants.{Missing, At}
use Rattle.reading.specs.Readings.{place_of, temperature, lead, item_of}
use Rattle.meanings.specs.declared.Sense.{Sense}
use Rattle.meanings.specs.declared.Sense.TheVariants.{Alike}
use Rattle.meanings.specs.Meaning.{sense_of, sense_number, same_sense, without_digit, shares, Meaning, reads, says, meaning_of}
use Rattle.meanings.specs.Kept.{keeps, lost_text, lost_at}
use Rattle.meanings.specs.Lost.{Expressible, Lost}
use Rattle.meanings.proofs.SenseLaws.{same_sense_lem}
use Rattle.recasting.proofs.Request9Places.{standing, HasDigit}
use Rattle.recasting.proofs.ResultLaws.{Plain, result, result_long, result_beyond, as_it_was, lost_blank, new_blank}
use Rattle.layout.proofs.Lacking.{nothing_there}
use Rattle.recasting.proofs.NeverLaws.{shared, column_12, same}
use Rattle.recasting.proofs.ColumnLaws.{Column, stays, moves, column, same_there}
use Rattle.recasting.proofs.Demand3Accepted.{acceptable}

-- a blank digit gives no place
no_place : (ed : Edition) (q la lo : List ℕ) → blank q ≡ true → place_of ed q la lo ≡ Missing
unfolding place_of
no_place ed q la lo b = rw b

-- editions between which column 12 stays read it alike
alike_digits : (from to : Edition) (q la lo : List ℕ) → crosses from to ≡ false → place_of to q la lo ≡ place_of from q la lo
unfolding place_of
alike_digits from to q la lo h = ap (λ (p : Place). cond (blank q || blank la || blank lo) Missing (At p)) (alike_places (number q) (number la) (number lo) from to h)

-- the digit that is taken gives the place that the other gave
moved : (from to : Edition) (xs : List ℕ) (f : HasDigit from to xs) →
    without_digit (place_of to (standing f.digit) (text_of 7 xs) (text_of 8 xs)) ≡ without_digit (place_of from (text_of 6 xs) (text_of 7 xs) (text_of 8 xs))
unfolding item_of is_coordinate is_temperature element page
moved from to xs f = ap without_digit f.gives ∙ sym (ap without_digit f.held)

-- the characters and the sense of what is said
abbrev words : Meaning → List ℕ
words (reads r) = []
words (says t s) = t

abbrev sense : Meaning → Sense
sense (reads r) = Alike
sense (says t s) = s

pub not_there : (t : List ℕ) → there t ≡ true → blank t ≡ false
not_there t h = by (blank t) refl
  where
    by : (x : Bool) → blank t ≡ x → x ≡ false
    by true e = absurd (true≢false (sym h ∙ ap not e))
    by false e = refl

-- one text of an element
module _ (from to : Edition) (e : ℕ) (t : List ℕ) where
  lost_there : lost_text from to e t ≡ true → there t ≡ true
  unfolding lost_text
  lost_there k = and_first _ _ k

  lost_filled : lost_text from to e t ≡ true → blank t ≡ false
  lost_filled k = not_there t (lost_there k)

  -- characters that are legal in the target, in the sense in which they stood, are not lost
  said_kept : (text : List ℕ) → Plain e → blank t ≡ false → legal to text e ≡ true → text_of e text ≡ t → sense_of to e (text_of e text) ≡ sense_of from e t → lost_text from to e t ≡ false
  unfolding lost_text keeps legal
  said_kept text plain b lawful same senses =
      let allowed : ((may_be_blank e && blank t) || allows (legal_texts to e) t) ≡ true = rw same at lawful in
      let sense-same : sense_of to e t ≡ sense_of from e t = sym (ap (sense_of to e) same) ∙ senses in
      by (may_be_blank e) (allows (legal_texts to e) t) refl (rw b at allowed) sense-same
    where
      by : (m x : Bool) → allows (legal_texts to e) t ≡ x → ((m && false) || x) ≡ true → sense_of to e t ≡ sense_of from e t → (not (blank t) && not (keeps from to e t)) ≡ false
      by m true p q s = rw (b, plain.0, plain.1, p, s, eq-eqb (sense_number (sense_of from e t)) (sense_number (sense_of from e t)) refl)
      by true false p q s = absurd (true≢false (sym q))
      by false false p q s = absurd (true≢false (sym q))

module _ (from to : Edition) (xs : List ℕ) (a : Acceptable from xs) where
  -- the place: the same two numbers
  place_kept : without_digit (place_of to (text_of 6 (result from to xs a)) (text_of 7 (result from to xs a)) (text_of 8 (result from to xs a))) ≡
      without_digit (place_of from (text_of 6 xs) (text_of 7 xs) (text_of 8 xs))
  place_kept = rw (same from to xs a 7 refl, same from to xs a 8 refl) (by (column from to xs a))
    where
      by : Column from to xs a → without_digit (place_of to (text_of 6 (result from to xs a)) (text_of 7 xs) (text_of 8 xs)) ≡ without_digit (place_of from (text_of 6 xs) (text_of 7 xs) (text_of 8 xs))
      by (stays w e) =
          ap (λ (t : List ℕ). without_digit (place_of to t (text_of 7 xs) (text_of 8 xs))) e ∙
          ap without_digit
          (⊎_elim (alike_digits from to (text_of 6 xs) (text_of 7 xs) (text_of 8 xs)) (λ b. no_place to (text_of 6 xs) (text_of 7 xs) (text_of 8 xs) b ∙ sym (no_place from (text_of 6 xs) (text_of 7 xs) (text_of 8 xs) b)) w)
      by (moves c b f e) = ap (λ (t : List ℕ). without_digit (place_of to t (text_of 7 xs) (text_of 8 xs))) e ∙ moved from to xs f

  -- what shares a reading
  abbrev Kept : ℕ → Type 0
  Kept l = without_digit (item_of to (result from to xs a) l) ≡ without_digit (item_of from xs l)

  pair_kept : (e f : ℕ) → text_of e (result from to xs a) ≡ text_of e xs → text_of f (result from to xs a) ≡ text_of f xs →
      without_digit (temperature (text_of e (result from to xs a)) (text_of f (result from to xs a))) ≡ without_digit (temperature (text_of e xs) (text_of f xs))
  pair_kept e f p q = rw (p, q)

  item_kept : (e : ℕ) → shares e ≡ true → Kept (lead e)
  unfolding item_of is_coordinate is_sign is_temperature element page
  item_kept e h =
      ⊎_elim
      (λ p. ⊎_elim (λ m. at_number (λ k. Kept (lead k)) e 6 m place_kept) (coordinate_cases (λ k. Kept (lead k)) e place_kept place_kept) (either_half (eqb e 6) _ p))
      (λ p. ⊎_elim (sign_cases (λ k. Kept (lead k)) e air dew sea wet) (temperature_cases (λ k. Kept (lead k)) e air dew sea wet) (either_half (is_sign e) _ p))
      (either_half (eqb e 6 || is_coordinate e) _ h)
    where
      air : Kept 16
      air = pair_kept 16 17 (same from to xs a 16 refl) (same from to xs a 17 refl)

      dew : Kept 18
      dew = pair_kept 18 19 (same from to xs a 18 refl) (same from to xs a 19 refl)

      sea : Kept 28
      sea = pair_kept 28 29 (same from to xs a 28 refl) (same from to xs a 29 refl)

      wet : Kept 50
      wet = pair_kept 50 51 (same from to xs a 50 refl) (same from to xs a 51 refl)

  -- an element that is filled and not lost means what it meant
  module _ (e : ℕ) (h : 1 ≤ e) (l : e ≤ 101) (other : eqb e 65 ≡ false) where
    alone : shares e ≡ false → eqb e 6 ≡ false
    alone s = neither_first _ _ (neither_first _ _ s)

    -- a text that is filled and not lost is legal in the target, in the same sense
    kept_there : eqb e 6 ≡ false → blank (text_of e xs) ≡ false → lost_at from to xs e ≡ false →
        (allows (legal_texts to e) (text_of e xs) ≡ true) × (same_sense (sense_of from e (text_of e xs)) (sense_of to e (text_of e xs)) ≡ true)
    unfolding lost_text keeps
    kept_there p b k = by _ _ refl refl
      where
        by : (x y : Bool) → allows (legal_texts to e) (text_of e xs) ≡ x → same_sense (sense_of from e (text_of e xs)) (sense_of to e (text_of e xs)) ≡ y → (x ≡ true) × (y ≡ true)
        by true true f g = (refl, refl)
        by true false f g = absurd (true≢false (sym (rw (b, p, other, f, g)) ∙ k))
        by false y f g = absurd (true≢false (sym (rw (b, p, other, f)) ∙ k))

    -- so the target has such an element
    held_there : eqb e 6 ≡ false → blank (text_of e xs) ≡ false → lost_at from to xs e ≡ false → e ≤ last_of to
    held_there p b k = by (leb e (last_of to)) refl
      where
        by : (x : Bool) → leb e (last_of to) ≡ x → e ≤ last_of to
        by true f = leb-true _ _ f
        by false f = absurd (true≢false (sym (kept_there p b k).0 ∙ nothing_there to e (leb-false _ _ f) l (text_of e xs)))

    held_here : blank (text_of e xs) ≡ false → e ≤ last_of from
    unfolding every
    held_here b = by (leb e (last_of from)) refl
      where
        by : (x : Bool) → leb e (last_of from) ≡ x → e ≤ last_of from
        by true f = leb-true _ _ f
        by false f = absurd (true≢false (sym (ap blank (text_none from xs a.full e (leb-false _ _ f))) ∙ b))

    -- and has the characters that it had
    pub text_kept : eqb e 6 ≡ false → blank (text_of e xs) ≡ false → lost_at from to xs e ≡ false → text_of e (result from to xs a) ≡ text_of e xs
    text_kept p b k = as_it_was from to xs a e (p, other) h (held_here b) (held_there p b k) k

    pub meaning_kept : blank (text_of e xs) ≡ false → lost_at from to xs e ≡ false → meaning_of to (result from to xs a) e ≡ meaning_of from xs e
    unfolding meaning_of
    meaning_kept b k = by (shares e) refl
      where
        by : (x : Bool) → shares e ≡ x → meaning_of to (result from to xs a) e ≡ meaning_of from xs e
        by true s = rw s (ap reads (item_kept e s))
        by false s =
            let p = alone s in
            rw (s, text_kept p b k) (ap (says (text_of e xs)) (sym (same_sense_lem _ _ (kept_there p b k).1)))

    -- an element that is filled is blank in the result exactly where it is lost
    pub not_lost_filled : blank (text_of e xs) ≡ false → lost_at from to xs e ≡ false → blank (text_of e (result from to xs a)) ≡ false
    not_lost_filled b k = by (eqb e 6) refl
      where
        six : blank (text_of 6 xs) ≡ false → blank (text_of 6 (result from to xs a)) ≡ false
        six c = same_there from to xs a ∙ c

        by : (x : Bool) → eqb e 6 ≡ x → blank (text_of e (result from to xs a)) ≡ false
        by true p = at_number (λ n. blank (text_of n xs) ≡ false → blank (text_of n (result from to xs a)) ≡ false) e 6 p six b
        by false p = ap blank (text_kept p b k) ∙ b

    pub blank_stays : blank (text_of e xs) ≡ true → lost_at from to xs e ≡ false → blank (text_of e (result from to xs a)) ≡ true
    unfolding every
    blank_stays b k = by (eqb e 6) (leb e (last_of to)) (leb e (last_of from)) refl refl refl
      where
        six : blank (text_of 6 xs) ≡ true → blank (text_of 6 (result from to xs a)) ≡ true
        six c = same_there from to xs a ∙ c

        by : (x y z : Bool) → eqb e 6 ≡ x → leb e (last_of to) ≡ y → leb e (last_of from) ≡ z → blank (text_of e (result from to xs a)) ≡ true
        by true y z p q r = at_number (λ n. blank (text_of n xs) ≡ true → blank (text_of n (result from to xs a)) ≡ true) e 6 p six b
        by false false z p q r = ap blank (result_beyond from to xs a e (leb-false _ _ q))
        by false true true p q r = ap blank (as_it_was from to xs a e (p, other) h (leb-true _ _ r) (leb-true _ _ q) k) ∙ b
        by false true false p q r = new_blank from to xs a e (p, other) h (leb-true _ _ q) (leb-false _ _ r) k

    pub plain_lost : lost_at from to xs e ≡ true → Plain e
    plain_lost k = (by (eqb e 6) refl, other)
      where
        by : (x : Bool) → eqb e 6 ≡ x → x ≡ false
        by true p = absurd (true≢false (sym k ∙ ap (lost_at from to xs) (eqb-true e 6 p) ∙ column_12 from to xs a))
        by false p = refl

    -- an element keeps its meaning, or is blank
    pub kept_or_blank : (meaning_of to (result from to xs a) e ≡ meaning_of from xs e) ⊎ (blank (text_of e (result from to xs a)) ≡ true)
    kept_or_blank = by (blank (text_of e xs)) (lost_at from to xs e) refl refl
      where
        by : (b k : Bool) → blank (text_of e xs) ≡ b → lost_at from to xs e ≡ k → (meaning_of to (result from to xs a) e ≡ meaning_of from xs e) ⊎ (blank (text_of e (result from to xs a)) ≡ true)
        by b true p q = inr (lost_blank from to xs a e (plain_lost q) h q)
        by false false p q = inl (meaning_kept p q)
        by true false p q = inr (blank_stays p q)

    -- the result itself has the meaning of an element that is filled and not lost
    pub expressible : blank (text_of e xs) ≡ false → lost_at from to xs e ≡ false → Expressible from to xs e
    expressible b k = record {
      text = result from to xs a;
      full = result_long from to xs a;
      lawful = λ f m n s. all_legal to (result from to xs a) (acceptable from to xs a) f m;
      means = meaning_kept b k;
    }

    said : (x : Expressible from to xs e) → shares e ≡ false → says (text_of e x.text) (sense_of to e (text_of e x.text)) ≡ says (text_of e xs) (sense_of from e (text_of e xs))
    unfolding meaning_of
    said x s = let m : meaning_of to x.text e ≡ meaning_of from xs e = x.means in rw s at m

    -- a legal text of the target with the meaning of an element that is lost: there is none
    none_means : lost_at from to xs e ≡ true → Expressible from to xs e → ⊥
    none_means k x = by (shares e) refl
      where
        plain : Plain e
        plain = plain_lost k

        filled : blank (text_of e xs) ≡ false
        filled = lost_filled from to e (text_of e xs) k

        by : (s : Bool) → shares e ≡ s → ⊥
        by true s = true≢false (sym k ∙ shared from to xs a e s)
        by false s = true≢false (sym k ∙ said_kept from to e (text_of e xs) x.text plain filled (x.lawful e h l refl) (ap words (said x s)) (ap sense (said x s)))

    -- an element is lost exactly when it is filled and no legal text of the target has its meaning
    pub lost_exactly : (lost_at from to xs e ≡ true) ↔ Lost from to xs e
    lost_exactly = (
      λ k. record { filled = lost_there from to e (text_of e xs) k; none = none_means k },
      λ lost. by (lost_at from to xs e) refl lost,
    )
      where
        by : (k : Bool) → lost_at from to xs e ≡ k → Lost from to xs e → k ≡ true
        by true p lost = refl
        by false p lost = absurd (lost.none (expressible (not_there (text_of e xs) lost.filled) p))

    -- an element that is filled is blank in the result exactly when no legal text of the target has its meaning
    pub blank_exactly : there (text_of e xs) ≡ true → (blank (text_of e (result from to xs a)) ≡ true) ↔ (Expressible from to xs e → ⊥)
    blank_exactly f = (λ b. to_none b, λ n. lost_blank from to xs a e (plain_lost (is_lost n)) h (is_lost n))
      where
        is_lost : (Expressible from to xs e → ⊥) → lost_at from to xs e ≡ true
        is_lost n = lost_exactly.1 (record { filled = f; none = n })

        to_none : blank (text_of e (result from to xs a)) ≡ true → Expressible from to xs e → ⊥
        to_none b = by (lost_at from to xs e) refl
          where
            by : (k : Bool) → lost_at from to xs e ≡ k → Expressible from to xs e → ⊥
            by true k = none_means k
            by false k = λ x. true≢false (sym b ∙ not_lost_filled (not_there (text_of e xs) f) k)
