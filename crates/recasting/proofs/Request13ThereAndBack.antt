-- Request 13: a buyer sends a recast record home, and it is recast to where it began. For every accepted record, each of the nine pairs of editions and lent buffers with room: the
-- second recast loses nothing, and each element then has its first characters, or is blank and was in the first loss set, or is column 12 with another digit for the same place.
-- Another digit comes on the equator alone, or where the longitude says 0.0, 90.0 or 180.0. Assumes nothing.
use Rattle.std.specs.Prelude.{Ok}
use mathlib.Core.Path.{◌≡◌, refl, sym, ap, ◌∙◌}
use mathlib.Core.Logic.{inl, inr}
use mathlib.Core.Bool.{Bool, true, false, true≢false}
use mathlib.Core.List.{List, [], ◌∷◌}
use Prim.Native.Nat.{ℕ, ◌≤◌}
use native.Mathlib.Omega.{arith}
use borrow.Author.Tests.{eqb-true, eqb-false}
use lib.Dec.{eqb, lit≤}
use lib.ListN.{length}
use Rattle.text.specs.Bytes.{blank, number}
use Rattle.text.specs.declared.LegalTexts.TheVariants.{Within}
use Rattle.text.proofs.Ways.{decide}
use Rattle.element_sets.specs.ElementSets.{no_elements, set_of, has_element}
use Rattle.element_sets.specs.declared.ElementSet.{ElementSet}
use Rattle.element_sets.proofs.Demand3Losses.{has_exactly, empty_set, none_lost}
use Rattle.layout.specs.declared.Edition.{Edition}
use Rattle.layout.specs.Editions.{edition_number, length_of}
use Rattle.layout.specs.Page.{element, page, text_of, is_coordinate, is_temperature}
use Rattle.layout.proofs.Beyond.{last_above}
use Rattle.layout.proofs.Elements.{in_each}
use Rattle.layout.proofs.Holding.{at_most}
use Rattle.layout.proofs.RecordLaws.{by_number}
use Rattle.ties.specs.Ties.{tie}
use Rattle.ties.proofs.Together.{latitude_alike, longitude_alike}
use Rattle.places.specs.declared.Place.{Place}
use Rattle.places.specs.Column12.{lowest_digit, crosses}
use Rattle.places.proofs.Request13Digits.{Edge, home_lowest, another_only}
use Rattle.checking.specs.Check.{checked}
use Rattle.checking.specs.Acceptable.{Acceptable}
use Rattle.checking.proofs.Demand2Acceptance.{accepted_exactly}
use Rattle.reading.specs.declared.Reading.TheVariants.{At}
use Rattle.reading.specs.Readings.{item_of, reading_of}
use Rattle.meanings.specs.Kept.{lost_at}
use Rattle.recasting.specs.Recast.{recast_record, recast_of, outcome_in, done}
use Rattle.recasting.proofs.Request9Places.{standing, digit_number, HasDigit, every_place}
use Rattle.recasting.proofs.NeverLaws as Never
use Rattle.recasting.proofs.Demand3Accepted.{recast_is_accepted}
use Rattle.recasting.proofs.Demand3Outcomes.{front, succeeds, is_front}
use Rattle.recasting.proofs.ReturnLaws as Returns

-- The record is recast to the edition `to` in one lent buffer; what stands in front there is the record that is recast to the edition `from` in another.
abbrev pub there : Edition → List ℕ → List ℕ → List ℕ
there to xs outward = front to xs (edition_number to) outward

abbrev pub back : Edition → Edition → List ℕ → List ℕ → List ℕ → List ℕ
back from to xs outward homeward = there from (there to xs outward) homeward

-- the record holds a place on the equator, or at 0.0, 90.0 or 180.0 degrees east or west
abbrev pub OnEdge : List ℕ → Type 0
OnEdge xs = (blank (text_of 6 xs) ≡ false) × Edge (number (text_of 7 xs)) (number (text_of 8 xs))

-- column 12 has another digit, which gives the same place, and the place is such a one
pub record AnotherDigit (from : Edition) (xs ys : List ℕ) : Type 0 where
  pub another : text_of 6 ys ≡ text_of 6 xs → ⊥
  pub place : Place
  pub held : reading_of from xs 6 ≡ At place
  pub digit : ℕ
  pub holds : reading_of from ys 6 ≡ At (record { latitude = place.latitude; longitude = place.longitude; digit = digit })
  pub edge : OnEdge xs

-- what element e of xs has become in ys, where `losses` is the first loss set
pub data Home (from : Edition) (losses : ElementSet) (xs ys : List ℕ) (e : ℕ) : Type 0 where
  first_characters : has_element losses e ≡ false → text_of e ys ≡ text_of e xs → Home from losses xs ys e
  was_lost : has_element losses e ≡ true → blank (text_of e ys) ≡ true → Home from losses xs ys e
  another_digit : e ≡ 6 → AnotherDigit from xs ys → Home from losses xs ys e

pub record ThereAndBack (from to : Edition) (xs outward homeward : List ℕ) : Type 0 where
  -- both calls succeed, and the second loses nothing
  pub losses : ElementSet
  pub goes : outcome_in (length outward) (recast_of xs (edition_number to)) ≡ done losses
  pub returns : outcome_in (length homeward) (recast_of (there to xs outward) (edition_number from)) ≡ done no_elements
  -- what has become of each element; column 111 has its first digit
  pub elements : (e : ℕ) → 1 ≤ e → e ≤ 101 → Home from losses xs (back from to xs outward homeward) e
  pub version : text_of 65 (back from to xs outward homeward) ≡ text_of 65 xs

-- over the records alone
module _ (from to : Edition) (xs : List ℕ) (a : Acceptable from xs) where
  abbrev home : List ℕ
  home = Returns.home from to xs a

  abbrev lost : ℕ → Bool
  lost = lost_at from to xs

  place_stays : (e : ℕ) → Never.steady e ≡ true → text_of e home ≡ text_of e xs
  place_stays e h = Never.same to from (recast_record from to xs) (Returns.fine_there from to xs a) e h ∙ Never.same from to xs a e h

  longitude_most : blank (text_of 6 xs) ≡ false → number (text_of 8 xs) ≤ 1800
  unfolding tie element page
  longitude_most b =
      let tied = a.tied 1 in
      let filled = longitude_alike (text_of 6 xs) (text_of 7 xs) (text_of 8 xs) tied ∙ latitude_alike (text_of 6 xs) (text_of 7 xs) (text_of 8 xs) tied ∙ b in
      at_most from xs 0 1800 8 (in_each from 8 (Within 0 1800) refl refl refl) (a.lawful 8 (lit≤ tt) (omega (arith, last_above from))) filled

  not_lost : has_element (set_of lost) 6 ≡ false
  not_lost = has_exactly lost 6 (lit≤ tt) (lit≤ tt) ∙ Never.column_12 from to xs a

  column_home : Home from (set_of lost) xs home 6
  unfolding item_of is_coordinate is_temperature element page
  column_home = by (crosses from to) (blank (text_of 6 xs)) refl refl
    where
      moved : crosses from to ≡ true → blank (text_of 6 xs) ≡ false → Home from (set_of lost) xs home 6
      moved c b = by (eqb f.digit (number (text_of 6 xs))) refl
        where
          f : HasDigit from from xs
          f = every_place from from xs a b

          own : Returns.OwnDigit from xs
          own = Returns.own_digit from xs a b

          stands : text_of 6 home ≡ standing f.digit
          stands = Returns.six_home from to xs a c b ∙ ap (λ (n : ℕ). n ∷ []) f.lowest

          edge : (f.digit ≡ number (text_of 6 xs) → ⊥) → Edge (number (text_of 7 xs)) (number (text_of 8 xs))
          edge n =
              let lowest = home_lowest from to (number (text_of 6 xs)) (number (text_of 7 xs)) (number (text_of 8 xs)) ∙ f.lowest in
              another_only from to (number (text_of 6 xs)) (number (text_of 7 xs)) (number (text_of 8 xs)) own.small own.may_stand_lem own.ties (longitude_most b) (λ e. n (omega (arith, lowest, e)))

          by : (x : Bool) → eqb f.digit (number (text_of 6 xs)) ≡ x → Home from (set_of lost) xs home 6
          by true p = first_characters not_lost (stands ∙ ap standing (eqb-true _ _ p) ∙ sym own.as_it_stands)
          by false p =
              another_digit refl
              (record {
                another = λ e. eqb-false _ _ p (sym (digit_number f.digit) ∙ ap number (sym stands ∙ e));
                place = f.place;
                held = f.held;
                digit = f.digit;
                holds = rw (stands, place_stays 7 refl, place_stays 8 refl) f.gives;
                edge = (b, edge (eqb-false _ _ p));
              })

      by : (x y : Bool) → crosses from to ≡ x → blank (text_of 6 xs) ≡ y → Home from (set_of lost) xs home 6
      by false y p q = first_characters not_lost (Returns.six_stays from to xs a (inl p))
      by true true p q = first_characters not_lost (Returns.six_stays from to xs a (inr q))
      by true false p q = moved p q

  each_home : (e : ℕ) → 1 ≤ e → e ≤ 101 → Home from (set_of lost) xs home e
  each_home e h l = by (eqb e 6) (eqb e 65) refl refl
    where
      by : (x y : Bool) → eqb e 6 ≡ x → eqb e 65 ≡ y → Home from (set_of lost) xs home e
      by true y p q = rw (eqb-true e 6 p) column_home
      by false true p q = first_characters (has_exactly lost e h l ∙ rw (eqb-true e 65 q) (Never.version from to xs a)) (rw (eqb-true e 65 q) (Returns.version_home from to xs a))
      by false false p q =
          decide (lost e) (λ k. was_lost (has_exactly lost e h l ∙ k) (Returns.lost_home from to xs a e (p, q) h l k))
          (λ k. first_characters (has_exactly lost e h l ∙ k) (Returns.text_home from to xs a e (p, q) h l k))

  -- column 12 has its digit again where the place is no such one
  six_again : (OnEdge xs → ⊥) → text_of 6 home ≡ text_of 6 xs
  six_again n = by column_home
    where
      by : Home from (set_of lost) xs home 6 → text_of 6 home ≡ text_of 6 xs
      by (first_characters k e) = e
      by (was_lost k b) = absurd (true≢false (sym k ∙ not_lost))
      by (another_digit e d) = absurd (n d.edge)

-- of the calls
module _ (from to : Edition) (xs outward homeward : List ℕ) (ok : checked xs ≡ Ok from) (room : length_of to ≤ length outward) (room-home : length_of from ≤ length homeward) where
  fine : Acceptable from xs
  fine = (accepted_exactly xs from).0 ok

  is_there : there to xs outward ≡ recast_record from to xs
  is_there = is_front from to xs (edition_number to) outward ok (by_number to) room

  accepted_there : checked (there to xs outward) ≡ Ok to
  accepted_there = ap checked is_there ∙ recast_is_accepted from to xs ok

  is_back : back from to xs outward homeward ≡ Returns.home from to xs fine
  is_back = is_front to from (there to xs outward) (edition_number from) homeward accepted_there (by_number from) room-home ∙ ap (recast_record to from) is_there

  goes : outcome_in (length outward) (recast_of xs (edition_number to)) ≡ done (set_of (lost_at from to xs))
  goes = succeeds from to xs (edition_number to) outward ok (by_number to) room

  pub there_and_back : ThereAndBack from to xs outward homeward
  there_and_back = record {
    losses = set_of (lost_at from to xs);
    goes = goes;
    returns =
        succeeds to from (there to xs outward) (edition_number from) homeward accepted_there (by_number from) room-home ∙
        ap done (ap (λ (t : List ℕ). set_of (lost_at to from t)) is_there ∙ empty_set (lost_at to from (recast_record from to xs)) (Returns.nothing_lost from to xs fine));
    elements = λ e h l. rw is_back (each_home from to xs fine e h l);
    version = ap (text_of 65) is_back ∙ Returns.version_home from to xs fine;
  }

  -- between editions 3 and 4, and to an edition itself, column 12 is never touched
  pub column_12_stays : crosses from to ≡ false → text_of 6 (back from to xs outward homeward) ≡ text_of 6 xs
  column_12_stays c = ap (text_of 6) is_back ∙ Returns.six_stays from to xs fine (inl c)

  -- between edition 1 and the others it comes home as the lowest digit of its edition for the place
  pub column_12_lowest : crosses from to ≡ true → blank (text_of 6 xs) ≡ false →
      text_of 6 (back from to xs outward homeward) ≡ lowest_digit from from (number (text_of 6 xs)) (number (text_of 7 xs)) (number (text_of 8 xs)) ∷ []
  column_12_lowest c b = ap (text_of 6) is_back ∙ Returns.six_home from to xs fine c b

  -- a record that lost nothing on the way and holds no such place comes home byte for byte
  pub byte_for_byte : outcome_in (length outward) (recast_of xs (edition_number to)) ≡ done no_elements → (OnEdge xs → ⊥) → back from to xs outward homeward ≡ xs
  byte_for_byte d n =
      let said : done (set_of (lost_at from to xs)) ≡ done no_elements = sym goes ∙ d in
      let none : set_of (lost_at from to xs) ≡ no_elements = cc in
      is_back ∙ Returns.comes_whole from to xs fine (none_lost (lost_at from to xs) none) (six_again from to xs fine n)

-- there, back and there again is there, and the third recast loses nothing
pub there_again : (from to : Edition) (xs outward homeward again : List ℕ) → checked xs ≡ Ok from → length_of to ≤ length outward → length_of from ≤ length homeward → length_of to ≤ length again →
    (outcome_in (length again) (recast_of (back from to xs outward homeward) (edition_number to)) ≡ done no_elements) × (there to (back from to xs outward homeward) again ≡ there to xs outward)
there_again from to xs outward homeward again ok room room-home room-again =
    let accepted = accepted_there from to xs outward homeward ok room room-home in
    let a = fine from to xs outward homeward ok room room-home in (
      (there_and_back to from (there to xs outward) homeward again accepted room-home room-again).returns,
      is_back to from (there to xs outward) homeward again accepted room-home room-again ∙
          ap (λ (t : List ℕ). recast_record from to (recast_record to from t)) (is_there from to xs outward homeward ok room room-home) ∙ Returns.there_again from to xs a ∙
          sym (is_there from to xs outward homeward ok room room-home),
    )
