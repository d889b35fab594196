-- Elements of one column that may read as a code and share their reading with no other: which they are, and what each way through the code says of one.
-- Assumes nothing.
use Rattle.layout.proofs.PartLaws.{text_is}
use mathlib.Core.Path.{◌≡◌, refl, sym, ap, ◌∙◌}
use mathlib.Core.Bool.{Bool, true, false, not, ◌&&◌, ◌||◌, and-true, beq}
use mathlib.Core.List.{List, [], ◌∷◌}
use Prim.Native.Nat.{ℕ, ◌+◌, ◌-◌, ◌/◌, ◌%◌, ◌^◌, ◌<◌, ◌≤◌}
use native.Mathlib.Omega.{arith}
use borrow.Author.Tests.{eqb-true, not-true}
use Rattle.std.proofs.lemmas.Bool.{not-false}
use lib.Dec.{eqb, lit<}
use lib.ListN.{length}
use Rattle.text.specs.Bytes.{every, between, digits, value_from, number, word}
use Rattle.text.proofs.Below.{every_below, passes_below}
use Rattle.text.proofs.Blanks.{not_blank}
use Rattle.text.proofs.Ways.{and_first, and_second, beq_true, imply}
use Rattle.layout.specs.declared.Edition.{Edition}
use Rattle.layout.specs.Page.{element, page, width_of, start_of, first_byte, is_text, is_departure, is_coordinate, is_sign, is_temperature}
use Rattle.layout.proofs.Parts.{one_byte}
use Rattle.reading.specs.declared.Reading.TheVariants.{Missing, Code, Text}
use Rattle.reading.specs.Readings.{plain, reading_of}
use Rattle.reading.proofs.ReadingLaws.{item_alone}

abbrev pub single : ℕ → Bool
single e = eqb (width_of e) 1 && not (eqb e 6 || is_sign e) && not (is_text e)

-- n bits that say which they are, from element a on: a test that is computed for every element
abbrev pub tells : ℕ → ℕ → ℕ → Bool
tells bits a n = every_below n (λ k. beq (eqb (bits / 2 ^ k % 2) 1) (single (a + k)))

pub told : (bits a n : ℕ) → tells bits a n ≡ true → (e k : ℕ) → a + k ≡ e → k < n → eqb (bits / 2 ^ k % 2) 1 ≡ single e
told bits a n t e k there h = beq_true _ _ (passes_below n (λ i. beq (eqb (bits / 2 ^ i % 2) 1) (single (a + i))) t k h) ∙ ap single there

-- one that leads no item has no lower element beside it, and is none of those whose number is read in a way of its own
abbrev apart : ℕ → Bool
apart e = not (is_coordinate e) && not (is_temperature e) && not (is_departure e) && not (eqb e 20)

is_apart : (e : ℕ) → e ≤ 101 → single e ≡ true → apart e ≡ true
unfolding is_text is_departure is_coordinate is_sign is_temperature element page
is_apart e h s = imply (single e) (apart e) (passes_below 102 (λ k. not (single k) || apart k) refl e (omega arith)) s

-- what one column reads as
module _ (b : ℕ) where
  pub column_missing : b ≡ 32 → Missing ≡ plain 1 (b ∷ [])
  unfolding plain every
  column_missing h = rw h

  as_number : b - 48 ≡ number (b ∷ [])
  unfolding value_from
  as_number = omega arith

  as_word : b ≡ word (b ∷ [])
  unfolding value_from
  as_word = omega arith

  -- x says whether it is no digit
  module _ (f : b ≡ 32 → ⊥) (x : Bool) (p : x ≡ not (between 48 57 b)) where
    is_code : {t : Bool} → between 48 57 b ≡ t → digits (b ∷ []) ≡ t
    unfolding every
    is_code h = and-true (between 48 57 b) ∙ h

    pub column_text : x ≡ true → Text b ≡ plain 1 (b ∷ [])
    unfolding plain
    column_text z = rw (not_blank (b ∷ []) 0 (lit< tt) f, is_code (not-true _ (sym p ∙ z))) (ap Text as_word)

    pub column_code : x ≡ false → (n m : ℕ) → n ≡ b - 48 → m ≡ n → Code m ≡ plain 1 (b ∷ [])
    unfolding plain is_text element page
    column_code z n m g h = rw (not_blank (b ∷ []) 0 (lit< tt) f, is_code (not-false _ (sym p ∙ z))) (ap Code (h ∙ g ∙ as_number))

-- such an element reads as its one column does
module _ (e : ℕ) (l : e ≤ 101) (s : single e ≡ true) where
  pub single_width : width_of e ≡ 1
  single_width = eqb-true _ _ (and_first _ _ (and_first _ _ s))

  plainly : (b : ℕ) → plain 1 (b ∷ []) ≡ plain e (b ∷ [])
  unfolding plain
  plainly b = rw (text_is 1, not-true (is_text e) (and_second (eqb (width_of e) 1 && not (eqb e 6 || is_sign e)) _ s), not-true (eqb e 20) (and_second (not (is_coordinate e) && not (is_temperature e) && not (is_departure e)) _ (is_apart e l s)))

  pub single_reads : (ed : Edition) (xs : List ℕ) → start_of e < length xs → plain 1 (first_byte e xs ∷ []) ≡ reading_of ed xs e
  single_reads ed xs h =
      let a = is_apart e l s in
      let b = and_first _ _ a in
      let c = and_first _ _ b in
      let alone = item_alone ed xs e (not-true (eqb e 6 || is_sign e) (and_second (eqb (width_of e) 1) _ (and_first _ _ s))) in
      plainly (first_byte e xs) ∙ ap (plain e) (sym (one_byte xs e single_width h)) ∙
      sym (rw (not-true (is_coordinate e) (and_first _ _ c), not-true (is_temperature e) (and_second (not (is_coordinate e)) _ c)) (alone ∙ rw (not-true (is_departure e) (and_second (not (is_coordinate e) && not (is_temperature e)) _ b))))
