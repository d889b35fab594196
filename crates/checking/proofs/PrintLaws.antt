-- A record whose elements are legal is printable, and its elements 1 and 65 are the format and the edition. Assumes nothing.
use mathlib.Core.Path.{◌≡◌, refl, sym}
use mathlib.Core.Bool.{Bool, true, false, cond, ◌&&◌, ◌||◌, true≢false}
use mathlib.Core.List.{List, [], ◌∷◌, ◌++◌}
use Prim.Native.Nat.{ℕ, zero, suc, ◌+◌, ◌<◌, ◌≤◌}
use native.Mathlib.Numerals.{add-one}
use native.Mathlib.Omega.{arith}
use borrow.Author.Tests.{le-leb}
use lib.Dec.{leb}
use lib.ListN.{length, get_or, take, drop}
use lib.Seq.{take_all, take-add}
use Rattle.text.specs.Bytes.{every, between, printable, is_digit, is_letter, blank, digits, number, value_from, run}
use Rattle.text.specs.LegalTexts.{in_call_sign, digit_or, allows}
use Rattle.text.specs.declared.LegalTexts.{LegalTexts}
use Rattle.text.specs.declared.LegalTexts.TheVariants.{Nothing, Printable, Letters, CallSign, DigitOr, Within, Either, OneOf}
use Rattle.text.proofs.Ranges.{least, greatest, wider}
use Rattle.text.proofs.Ways.{and_first, and_second}
use Rattle.layout.specs.declared.Edition.{Edition}
use Rattle.layout.specs.declared.Edition.TheVariants.{One, Three, Four}
use Rattle.layout.specs.Editions.{edition_of, length_of, last_of}
use Rattle.layout.specs.Page.{Element, page, none, elements, element, columns, width_of, start_of, text_of, first_byte, legal_texts_in, legal_texts, may_be_blank, legal}
use Rattle.layout.proofs.Columns.{start_next, filled}
use Rattle.layout.proofs.Parts.{one_byte}
use Rattle.layout.proofs.RecordLaws.{begins}
use Rattle.std.proofs.Common.{Some}

pub every_append : (p : ℕ → Bool) (a b : List ℕ) → every p a ≡ true → every p b ≡ true → every p (a ++ b) ≡ true
unfolding every
every_append p [] b e f = f
every_append p (x ∷ a) b e f = let h : p x ≡ true = and_first _ _ e in rw h (every_append p a b (and_second (p x) _ e) f)

-- a range within another
range : (lo hi b : ℕ) → 32 ≤ lo → hi ≤ 126 → between lo hi b ≡ true → printable b ≡ true
range lo hi b p q e =
    let l = least lo hi b e in
    let h = greatest lo hi b e in
    rw (le-leb 32 b (omega arith), le-leb b 126 (omega arith))

either_printable : (x y : Bool) (b : ℕ) → (x ≡ true → printable b ≡ true) → (y ≡ true → printable b ≡ true) → (x || y) ≡ true → printable b ≡ true
either_printable true y b f g e = f refl
either_printable false y b f g e = g e

blanks_print : (t : List ℕ) → blank t ≡ true → every printable t ≡ true
blanks_print t e = wider (between 32 32) printable (λ b. range 32 32 b (omega arith) (omega arith)) t e

digits_print : (t : List ℕ) → digits t ≡ true → every printable t ≡ true
digits_print t e = wider is_digit printable (λ b. range 48 57 b (omega arith) (omega arith)) t e

sign_prints : (b : ℕ) → in_call_sign b ≡ true → printable b ≡ true
sign_prints b e = either_printable (is_digit b) (is_letter b) b (range 48 57 b (omega arith) (omega arith)) (range 65 90 b (omega arith) (omega arith)) e

signs_print : (t : List ℕ) → blank (drop (run in_call_sign t) t) ≡ true → every printable t ≡ true
unfolding every run
signs_print [] e = refl
signs_print (b ∷ t) e = by (in_call_sign b) refl (signs_print t) e
  where
    by : (x : Bool) → in_call_sign b ≡ x → (blank (drop (run in_call_sign t) t) ≡ true → every printable t ≡ true) → blank (drop (cond x (suc (run in_call_sign t)) 0) (b ∷ t)) ≡ true → every printable (b ∷ t) ≡ true
    by true f k g = rw (sign_prints b f) (k g)
    by false f k g = blanks_print (b ∷ t) g

-- the byte that may stand in a digit's place is printable, which antt computes over the page
abbrev prints : LegalTexts → Bool
prints Nothing = true
prints Printable = true
prints Letters = true
prints CallSign = true
prints (DigitOr x) = printable x
prints (Within a b) = true
prints (Either a b c d) = true
prints (OneOf a b c d) = true

abbrev all_print : (Element → LegalTexts) → List Element → Bool
all_print f [] = true
all_print f (x ∷ l) = prints (f x) && all_print f l

print_at : (f : Element → LegalTexts) → prints (f none) ≡ true → (l : List Element) → all_print f l ≡ true → (e : ℕ) → prints (f (get_or l e none)) ≡ true
print_at f z [] t e = z
print_at f z (x ∷ l) t zero = and_first _ _ t
print_at f z (x ∷ l) t (suc e) = print_at f z l (and_second (prints (f x)) _ t) e

page_prints : (ed : Edition) (e : ℕ) → prints (legal_texts ed e) ≡ true
unfolding element page
page_prints One e = print_at (legal_texts_in One) refl elements refl e
page_prints Three e = print_at (legal_texts_in Three) refl elements refl e
page_prints Four e = print_at (legal_texts_in Four) refl elements refl e

allowed_prints : (s : LegalTexts) → prints s ≡ true → (t : List ℕ) → allows s t ≡ true → every printable t ≡ true
unfolding allows
allowed_prints Nothing p t e = absurd (true≢false (sym e))
allowed_prints Printable p t e = e
allowed_prints Letters p t e = wider is_letter printable (λ b. range 65 90 b (omega arith) (omega arith)) t e
allowed_prints CallSign p t e = signs_print t (and_second (leb 3 (run in_call_sign t)) _ e)
allowed_prints (DigitOr x) p t e =
    let low = least 32 126 x p in
    let high = greatest 32 126 x p in
    wider (digit_or x) printable (λ b. either_printable (is_digit b) (between x x b) b (range 48 57 b (omega arith) (omega arith)) (range x x b low high)) t e
allowed_prints (Within a b) p t e = digits_print t (and_first _ _ e)
allowed_prints (Either a b c d) p t e = digits_print t (and_first _ _ e)
allowed_prints (OneOf a b c d) p t e = digits_print t (and_first _ _ e)

-- a legal text is blank or allowed
pub legal_prints : (ed : Edition) (xs : List ℕ) (e : ℕ) → legal ed xs e ≡ true → every printable (text_of e xs) ≡ true
unfolding legal
legal_prints ed xs e h = by (may_be_blank e) (blank (text_of e xs)) refl h
  where
    by : (x y : Bool) → blank (text_of e xs) ≡ y → ((x && y) || allows (legal_texts ed e) (text_of e xs)) ≡ true → every printable (text_of e xs) ≡ true
    by true true f g = blanks_print (text_of e xs) f
    by true false f g = allowed_prints (legal_texts ed e) (page_prints ed e) (text_of e xs) g
    by false y f g = allowed_prints (legal_texts ed e) (page_prints ed e) (text_of e xs) g

-- a record whose elements are legal is printable
module _ (ed : Edition) (xs : List ℕ) (full : length xs ≡ length_of ed) (lawful : (e : ℕ) → 1 ≤ e → e ≤ last_of ed → legal ed xs e ≡ true) where
  fronts_print : (e : ℕ) → e ≤ last_of ed → every printable (take (start_of (e + 1)) xs) ≡ true
  unfolding text_of start_of columns every
  fronts_print zero h = refl
  fronts_print (suc e) h = rw (← add-one e, start_next (e + 1), take-add (start_of (e + 1)) (width_of (e + 1)) xs)
      (every_append printable (take (start_of (e + 1)) xs) (text_of (e + 1) xs) (fronts_print e (omega arith)) (legal_prints ed xs (e + 1) (lawful (e + 1) (omega arith) (omega arith))))

  pub record_prints : every printable xs ≡ true
  record_prints = rw (take_all (start_of (last_of ed + 1)) xs (omega (arith, filled ed))) at (fronts_print (last_of ed) (omega arith))

-- one column that holds a digit from lo to hi
one_digit : (lo hi b : ℕ) (t : List ℕ) → t ≡ b ∷ [] → (digits t && between lo hi (number t)) ≡ true → (48 + lo ≤ b) × (b ≤ 48 + hi)
unfolding value_from every
one_digit lo hi b t f e =
    let g : (digits (b ∷ []) && between lo hi (number (b ∷ []))) ≡ true = rw f at e in
    let d : is_digit b ≡ true = and_first _ _ (and_first _ _ g) in
    let low = least 48 57 b d in
    let n = and_second (digits (b ∷ [])) _ g in
    let from = least lo hi (number (b ∷ [])) n in
    let to = greatest lo hi (number (b ∷ [])) n in
    (omega arith, omega arith)

-- elements 1 and 65 of a record in which they are legal
module _ (ed : Edition) (xs : List ℕ) (long : 131 ≤ length xs) where
  -- which are of one column and may not be blank
  single : (e lo hi : ℕ) → width_of e ≡ 1 → start_of e < 131 → (digits (text_of e xs) && between lo hi (number (text_of e xs))) ≡ true → (48 + lo ≤ first_byte e xs) × (first_byte e xs ≤ 48 + hi)
  single e lo hi w h k = one_digit lo hi (first_byte e xs) (text_of e xs) (one_byte xs e w (omega arith)) k

  pub format_digit : legal ed xs 1 ≡ true → between 51 53 (first_byte 1 xs) ≡ true
  unfolding legal element page allows
  format_digit h =
      let r = single 1 3 5 refl (begins One 1 (omega arith) (omega arith)) (by ed h) in
      rw (le-leb 51 (first_byte 1 xs) r.0, le-leb (first_byte 1 xs) 53 r.1)
    where
      by : (ed : Edition) → legal ed xs 1 ≡ true → (digits (text_of 1 xs) && between 3 5 (number (text_of 1 xs))) ≡ true
      by One k = k
      by Three k = k
      by Four k = k

  pub edition_digit : legal ed xs 65 ≡ true → edition_of (first_byte 65 xs) ≡ Some ed
  unfolding legal element page allows
  edition_digit h = by ed h
    where
      exactly : (d : ℕ) → (digits (text_of 65 xs) && between d d (number (text_of 65 xs))) ≡ true → first_byte 65 xs ≡ 48 + d
      exactly d k = let r = single 65 d d refl (begins One 65 (omega arith) (omega arith)) k in omega arith

      by : (ed : Edition) → legal ed xs 65 ≡ true → edition_of (first_byte 65 xs) ≡ Some ed
      by One k = rw (exactly 1 k)
      by Three k = rw (exactly 3 k)
      by Four k = rw (exactly 4 k)
