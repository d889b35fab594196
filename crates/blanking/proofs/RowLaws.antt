-- The row that is blanked step by step is, element by element, the row in which what is lost is blank. Assumes nothing.
use mathlib.Core.Path.{◌≡◌, refl, sym, ap, ◌∙◌}
use mathlib.Core.Bool.{Bool, true, false, cond, ◌||◌, true≢false}
use mathlib.Core.List.{List}
use Prim.Native.Nat.{ℕ, ◌+◌, ◌<◌, ◌≤◌}
use native.Mathlib.Omega.{arith}
use lib.ListN.{length, get_or}
use lib.Seq.{ext_get_or}
use Rattle.text.specs.Bytes.{between}
use Rattle.text.proofs.Blanks.{only_blank}
use Rattle.text.proofs.Every.{every_at}
use Rattle.numerals.specs.Numerals.{spell, in_blanks}
use Rattle.numerals.proofs.Spellings.{spelled_length, blanks_blank}
use Rattle.layout.specs.declared.Edition.{Edition}
use Rattle.layout.specs.declared.Edition.TheVariants.{One, Three, Four}
use Rattle.layout.specs.Editions.{length_of, last_of}
use Rattle.layout.specs.Page.{width_of, start_of, text_of, legal_text}
use Rattle.layout.proofs.Elements.{last_below}
use Rattle.layout.proofs.Columns.{filled}
use Rattle.layout.proofs.Parts.{text_byte}
use Rattle.layout.proofs.RecordLaws.{ends, text_long}
use Rattle.places.specs.Column12.{is_first}
use Rattle.meanings.specs.Kept.{lost_at}
use Rattle.blanking.specs.LostBytes.{blanked_text, in_column, leaves, later_lost, shared_lost, lost_in, blanked}
use Rattle.blanking.proofs.Blanked.{or_none, blanked_length, byte_at, same_blanked, then}
use Rattle.blanking.proofs.Steps.{later_none}
use Rattle.blanking.proofs.Lost.{column_lost}

pub first_length : (ed : Edition) → is_first ed ≡ true → length_of ed ≡ 131
first_length One f = refl
first_length Three f = absurd (true≢false (sym f))
first_length Four f = absurd (true≢false (sym f))

pub other_length : (ed : Edition) → is_first ed ≡ false → length_of ed ≡ 159
other_length One f = absurd (true≢false f)
other_length Three f = refl
other_length Four f = refl

blank_at : (n i : ℕ) → i < n → get_or (spell n in_blanks) i 0 ≡ 32
blank_at n i h = only_blank _ (every_at (between 32 32) (spell n in_blanks) (blanks_blank n) i (omega (arith, spelled_length 1 32 n 0)))

module _ (from to : Edition) (xs : List ℕ) (full : length xs ≡ length_of to) (each : (e : ℕ) → 1 ≤ e → e ≤ last_of to → legal_text from e (text_of e xs) ≡ true) where
  row_text : (e : ℕ) → 1 ≤ e → e ≤ last_of to → text_of e (blanked (lost_in from to) xs) ≡ blanked_text from to xs e
  unfolding blanked_text
  row_text e l h = ext_get_or 0 _ _ (left ∙ sym (right (lost_at from to xs e))) (λ i m. bytes i (omega (arith, left)))
    where
      inside : start_of e + width_of e ≤ length xs
      inside = omega (arith, ends to e h)

      left : length (text_of e (blanked (lost_in from to) xs)) ≡ width_of e
      left = text_long to (blanked (lost_in from to) xs) (blanked_length (λ c. lost_in from to (in_column c)) 0 xs ∙ full) e h

      right : (x : Bool) → length (cond x (spell (width_of e) in_blanks) (text_of e xs)) ≡ width_of e
      right true = spelled_length 1 32 (width_of e) 0
      right false = text_long to xs full e h

      chosen : (x : Bool) (i : ℕ) → i < width_of e → cond x 32 (get_or xs (start_of e + i) 0) ≡ get_or (cond x (spell (width_of e) in_blanks) (text_of e xs)) i 0
      chosen true i m = sym (blank_at (width_of e) i m)
      chosen false i m = sym (text_byte xs e i m)

      bytes : (i : ℕ) → i < width_of e → get_or (text_of e (blanked (lost_in from to) xs)) i 0 ≡ get_or (cond (lost_at from to xs e) (spell (width_of e) in_blanks) (text_of e xs)) i 0
      bytes i m =
          text_byte (blanked (lost_in from to) xs) e i m ∙ byte_at (λ c. lost_in from to (in_column c)) xs (start_of e + i) (omega (arith, inside)) ∙
          column_lost from to xs e l (omega (arith, last_below to)) inside (each e l h) h i m ∙
          chosen (lost_at from to xs e) i m

  -- edition 1 has the shared columns alone
  pub in_first : is_first to ≡ true → (after : List ℕ) → after ≡ blanked (shared_lost from to) xs → (e : ℕ) → 1 ≤ e → e ≤ last_of to → text_of e after ≡ blanked_text from to xs e
  unfolding lost_in
  in_first f after g e l h =
      ap (text_of e)
      (g ∙ same_blanked _ (λ c. lost_in from to (in_column c)) 0 xs
      (λ j b m n. sym (ap (λ (x : Bool). shared_lost from to (in_column j) b || x) (later_none j b (is_first to) (leaves from to) (omega (arith, full, filled One, first_length to f))) ∙ or_none (shared_lost from to (in_column j) b)))) ∙
      row_text e l h

  pub in_others : is_first to ≡ false → (mid after : List ℕ) (x : Bool) → mid ≡ blanked (shared_lost from to) xs → x ≡ leaves from to → after ≡ blanked (later_lost false x) mid →
      (e : ℕ) → 1 ≤ e → e ≤ last_of to → text_of e after ≡ blanked_text from to xs e
  unfolding lost_in
  in_others f mid after x g y k e l h = ap (text_of e) (then (shared_lost from to) (later_lost false x) xs mid after g k ∙ same_blanked _ (λ c. lost_in from to (in_column c)) 0 xs (λ j b m n. rw (f, y))) ∙ row_text e l h
