-- Element by element: it is lost exactly where its first byte is, and every column of it is blank then. Assumes nothing.
use mathlib.Core.Path.{◌≡◌, refl, sym, ap, ◌∙◌, subst}
use mathlib.Core.Bool.{Bool, true, false, cond, not, ◌&&◌, true≢false}
use mathlib.Core.List.{List, [], ◌∷◌}
use mathlib.Core.Logic.{◌⊎◌, inl, inr}
use Prim.Native.Nat.{ℕ, ◌+◌, ◌<◌, ◌≤◌}
use native.Mathlib.Nat.{add-zero}
use native.Mathlib.Omega.{arith}
use borrow.Author.Tests.{eqb-true, ne_eqb, le-leb}
use lib.Dec.{eqb}
use lib.ListN.{length, get_or, drop, length-drop}
use lib.Seq.{length-take-le}
use Rattle.text.specs.Bytes.{between, printable, blank}
use Rattle.text.specs.LegalTexts.{allows}
use Rattle.text.specs.First.{first_from}
use Rattle.text.specs.declared.LegalTexts.TheVariants.{CallSign}
use Rattle.text.proofs.Blanks.{only_blank}
use Rattle.text.proofs.Every.{every_at}
use Rattle.text.proofs.First.{all_of_none}
use Rattle.text.proofs.Ranges.{least, greatest}
use Rattle.text.proofs.Ways.{second_holds}
use Rattle.element_sets.proofs.Ways.{up_to_or_past}
use Rattle.layout.specs.declared.Edition.{Edition}
use Rattle.layout.specs.declared.Edition.TheVariants.{One, Three, Four}
use Rattle.layout.specs.Editions.{last_of}
use Rattle.layout.specs.Page.{page, element, width_of, start_of, text_of, first_byte, legal_texts, may_be_blank, legal_text, legal}
use Rattle.layout.proofs.Alike.{later_alike}
use Rattle.layout.proofs.Columns.{some_column}
use Rattle.layout.proofs.Elements.{in_each}
use Rattle.layout.proofs.Lacking.{nothing_there}
use Rattle.layout.proofs.Parts.{text_byte, one_byte}
use Rattle.checking.proofs.PrintLaws.{legal_prints}
use Rattle.places.specs.Column12.{is_first, crosses}
use Rattle.meanings.specs.Meaning.{has_senses, sense_of}
use Rattle.meanings.specs.Kept.{keeps, lost_text, lost_at}
use Rattle.meanings.proofs.KeepLaws.{alike_kept, early_kept, added_kept}
use Rattle.blanking.specs.LostBytes.{Spot, in_element, in_column, lost_in, named}
use Rattle.blanking.proofs.Table.{alone, narrow, alone_lost}
use Rattle.blanking.proofs.Filled.{solid, legal_half, not_blank_byte, says_filled}
use Rattle.blanking.proofs.Steps.{and_none, same_spot, none_early, none_between, none_later, all_later, country_in}

-- the elements in their order: most keep their texts in every edition, some have one column, then there are the country and the wide ones that edition 1 has not
data Sort (e : ℕ) : Type 0 where
  early : e ≤ 39 → Sort e
  single : alone e ≡ true → Sort e
  sign : e ≡ 42 → Sort e
  country : e ≡ 43 → Sort e
  added : 44 ≤ e → e ≤ 63 → Sort e
  later : 87 ≤ e → e ≤ 93 → Sort e

sort_of : (e : ℕ) → Sort e
sort_of e = by (up_to_or_past e 39) (up_to_or_past e 41) (up_to_or_past e 42) (up_to_or_past e 43) (up_to_or_past e 63) (up_to_or_past e 86) (up_to_or_past e 93)
  where
    by : (e ≤ 39) ⊎ (39 < e) → (e ≤ 41) ⊎ (41 < e) → (e ≤ 42) ⊎ (42 < e) → (e ≤ 43) ⊎ (43 < e) → (e ≤ 63) ⊎ (63 < e) → (e ≤ 86) ⊎ (86 < e) → (e ≤ 93) ⊎ (93 < e) → Sort e
    by (inl a) b c d f g h = early a
    by (inr a) (inl b) c d f g h = single (rw (le-leb 40 e a, le-leb e 41 b))
    by (inr a) (inr b) (inl c) d f g h = sign (omega arith)
    by (inr a) (inr b) (inr c) (inl d) f g h = country (omega arith)
    by (inr a) (inr b) (inr c) (inr d) (inl f) g h = added d f
    by (inr a) (inr b) (inr c) (inr d) (inr f) (inl g) h = single (second_holds (between 40 41 e) _ (rw (le-leb 64 e f, le-leb e 86 g)))
    by (inr a) (inr b) (inr c) (inr d) (inr f) (inr g) (inl h) = later g h
    by (inr a) (inr b) (inr c) (inr d) (inr f) (inr g) (inr h) = single (second_holds (between 40 41 e) _ (second_holds (between 64 86 e) _ (le-leb 94 e h)))

-- what is legal and not blank is one of the texts
allowed_half : (ed : Edition) (e : ℕ) (t : List ℕ) → blank t ≡ false → legal_text ed e t ≡ true → allows (legal_texts ed e) t ≡ true
allowed_half ed e t b h = rw b at (legal_half (may_be_blank e) (blank t) (allows (legal_texts ed e) t) h)

-- the country is kept between editions that do not cross
country_kept : (from to : Edition) (t : List ℕ) → blank t ≡ false → legal_text from 43 t ≡ true → keeps from to 43 t ≡ not (crosses from to)
unfolding keeps sense_of element page
country_kept One One t b h = rw (allowed_half One 43 t b h)
country_kept One Three t b h = and_none (allows (legal_texts Three 43) t)
country_kept One Four t b h = and_none (allows (legal_texts Four 43) t)
country_kept Three One t b h = and_none (allows (legal_texts One 43) t)
country_kept Three Three t b h = rw (allowed_half Three 43 t b h)
country_kept Three Four t b h = rw (allowed_half Three 43 t b h)
country_kept Four One t b h = and_none (allows (legal_texts One 43) t)
country_kept Four Three t b h = rw (allowed_half Four 43 t b h)
country_kept Four Four t b h = rw (allowed_half Four 43 t b h)

-- where what is not blank is kept or not as x says, it is lost as x says
filled_lost : (from to : Edition) (e : ℕ) (t : List ℕ) (x : Bool) → (blank t ≡ false → keeps from to e t ≡ not x) → lost_text from to e t ≡ (not (blank t) && x)
unfolding lost_text
filled_lost from to e t x f = by (blank t) refl
  where
    twice : (y : Bool) → not (not y) ≡ y
    twice true = refl
    twice false = refl

    by : (y : Bool) → blank t ≡ y → (not y && not (keeps from to e t)) ≡ (not y && x)
    by true k = refl
    by false k = ap not (f k) ∙ twice x

-- the call sign is alike in all editions
call_sign_lem : (ed : Edition) (e : ℕ) → e ≡ 42 → legal_texts ed e ≡ CallSign
unfolding element page
call_sign_lem ed e q = ap (legal_texts ed) q ∙ in_each ed 42 CallSign refl refl refl

-- the wide ones: editions 3 and 4 have them alike, edition 1 does not have them
module _ (e : ℕ) (l : 87 ≤ e) (h : e ≤ 93) where
  lacking : (t : List ℕ) → allows (legal_texts One e) t ≡ false
  lacking t = nothing_there One e (omega arith) (omega arith) t

  as_in_four : (ed : Edition) → is_first ed ≡ false → legal_texts ed e ≡ legal_texts Four e
  as_in_four One f = absurd (true≢false f)
  as_in_four Three f = later_alike e l h
  as_in_four Four f = refl

  one_sense : has_senses e ≡ false
  one_sense = rw (ne_eqb e 40 (λ z. omega arith), ne_eqb e 41 (λ z. omega arith), ne_eqb e 43 (λ z. omega arith))

  later_kept : (from to : Edition) (t : List ℕ) → is_first to ≡ false → legal_text from e t ≡ true → lost_text from to e t ≡ false
  later_kept One to t f ok = filled_lost One to e t false (λ b. absurd (true≢false (sym (allowed_half One e t b ok) ∙ lacking t))) ∙ and_none (not (blank t))
  later_kept Three to t f ok = alike_kept Three to e t (as_in_four Three refl ∙ sym (as_in_four to f)) one_sense ok
  later_kept Four to t f ok = alike_kept Four to e t (sym (as_in_four to f)) one_sense ok

  later_gone : (from to : Edition) (t : List ℕ) → is_first to ≡ true → keeps from to e t ≡ false
  unfolding keeps
  later_gone from One t f = rw (ne_eqb e 6 (λ z. omega arith), ne_eqb e 65 (λ z. omega arith), lacking t)
  later_gone from Three t f = absurd (true≢false (sym f))
  later_gone from Four t f = absurd (true≢false (sym f))

solid_country : (ed : Edition) → solid (legal_texts ed 43) ≡ true
unfolding element page
solid_country One = refl
solid_country Three = refl
solid_country Four = refl

-- the wide ones are digits
solid_later : (ed : Edition) (e : ℕ) → 87 ≤ e → e ≤ 93 → solid (legal_texts ed e) ≡ true
unfolding first_from element page
solid_later One e l h = all_of_none (λ f. solid (legal_texts One f)) 87 7 (omega arith) refl e l (omega arith)
solid_later Three e l h = all_of_none (λ f. solid (legal_texts Three f)) 87 7 (omega arith) refl e l (omega arith)
solid_later Four e l h = all_of_none (λ f. solid (legal_texts Four f)) 87 7 (omega arith) refl e l (omega arith)

module _ (from to : Edition) (xs : List ℕ) (e : ℕ) (l : 1 ≤ e) (h : e ≤ 101) (inside : start_of e + width_of e ≤ length xs) (ok : legal_text from e (text_of e xs) ≡ true) where
  abbrev byte : ℕ → ℕ
  byte i = get_or xs (start_of e + i) 0

  -- what is lost of it by its columns
  gone : (i : ℕ) → i < width_of e → lost_in from to (in_column (start_of e + i)) (byte i) ≡ lost_in from to (in_element e) (byte i)
  gone i m = ap (λ (at : Spot). lost_in from to at (byte i)) (same_spot e i m)

  long : length (text_of e xs) ≡ width_of e
  unfolding text_of
  long = length-take-le (width_of e) (drop (start_of e) xs) (rw length-drop (omega arith))

  prints : (i : ℕ) → i < width_of e → printable (byte i) ≡ true
  unfolding legal
  prints i k = ap printable (sym (text_byte xs e i k)) ∙ every_at printable (text_of e xs) (legal_prints from xs e ok) i (omega (arith, long))

  -- the first byte says whether it is filled, and in a blank text every byte is blank
  first_filled : solid (legal_texts from e) ≡ true → not (blank (text_of e xs)) ≡ between 33 126 (byte 0)
  first_filled s =
      let w = some_column e l h in
      let same = text_byte xs e 0 (omega arith) in
      says_filled (legal_texts from e) s (text_of e xs) (omega (arith, long)) (legal_half (may_be_blank e) (blank (text_of e xs)) _ ok) (omega (arith, same, least 32 126 (byte 0) (prints 0 (omega arith))))
      (omega (arith, same, greatest 32 126 (byte 0) (prints 0 (omega arith)))) ∙
      ap (between 33 126) same

  still_blank : blank (text_of e xs) ≡ true → (i : ℕ) → i < width_of e → byte i ≡ 32
  still_blank b i k = sym (text_byte xs e i k) ∙ only_blank _ (every_at (between 32 32) (text_of e xs) b i (omega (arith, long)))

  -- what the two laws say where nothing is lost, where one column says it all, and where the text is lost wherever it is filled and x is so
  record Says : Type 0 where
    first : lost_at from to xs e ≡ lost_in from to (in_element e) (byte 0)
    every_column : e ≤ last_of to → (i : ℕ) → i < width_of e → cond (lost_in from to (in_element e) (byte i)) 32 (byte i) ≡ cond (lost_at from to xs e) 32 (byte i)

  quiet : lost_at from to xs e ≡ false → ((b : ℕ) → lost_in from to (in_element e) b ≡ false) → Says
  quiet f g = record { first = f ∙ sym (g (byte 0)); every_column = λ k i m. rw (f, g (byte i)) }

  one : alone e ≡ true → Says
  one a =
      let w = narrow from to e l h a in
      let first_is : byte 0 ≡ first_byte e xs = ap (λ (c : ℕ). get_or xs c 0) (omega arith) in
      let text : text_of e xs ≡ byte 0 ∷ [] = one_byte xs e w (omega arith) ∙ ap (λ (b : ℕ). b ∷ []) (sym first_is) in
      let p = prints 0 (omega arith) in
      let first : lost_at from to xs e ≡ lost_in from to (in_element e) (byte 0) =
      ap (lost_text from to e) text ∙ alone_lost from to e l h a (byte 0) (least 32 126 (byte 0) p) (greatest 32 126 (byte 0) p) (ap (legal_text from e) (sym text) ∙ ok) in
      record { first = first; every_column = λ k i m. let none : i ≡ 0 = omega arith in rw (none, ← first) }

  wherever : (x : Bool) → solid (legal_texts from e) ≡ true → lost_text from to e (text_of e xs) ≡ (not (blank (text_of e xs)) && x) → ((b : ℕ) → lost_in from to (in_element e) b ≡ (x && between 33 126 b)) → Says
  wherever x s f g = record {
    first = f ∙ ap (λ (y : Bool). y && x) (first_filled s) ∙ swap (between 33 126 (byte 0)) x ∙ sym (g (byte 0));
    every_column = λ k i m. ap (λ (y : Bool). cond y 32 (byte i)) (g (byte i)) ∙ by x (blank (text_of e xs)) i m refl ∙ ap (λ (y : Bool). cond y 32 (byte i)) (sym f);
  }
    where
      swap : (y z : Bool) → (y && z) ≡ (z && y)
      swap true true = refl
      swap true false = refl
      swap false true = refl
      swap false false = refl

      same : (y : Bool) → ◌≡◌ {A = ℕ} (cond y 32 32) 32
      same true = refl
      same false = refl

      by : (x y : Bool) (i : ℕ) → i < width_of e → blank (text_of e xs) ≡ y → cond (x && between 33 126 (byte i)) 32 (byte i) ≡ cond (not y && x) 32 (byte i)
      by false true i m k = refl
      by false false i m k = refl
      by true true i m k = rw (still_blank k i m)
      by true false i m k =
          let p = prints i m in
          ap (λ (y : Bool). cond y 32 (byte i)) (not_blank_byte (byte i) (least 32 126 (byte i) p) (greatest 32 126 (byte i) p)) ∙ filled (eqb (byte i) 32) refl
        where
          filled : (y : Bool) → eqb (byte i) 32 ≡ y → cond (not y) 32 (byte i) ≡ 32
          filled true q = eqb-true (byte i) 32 q
          filled false q = refl

  says : Says
  says = by (sort_of e)
    where
      by : Sort e → Says
      by (early a) = quiet (early_kept from to e (text_of e xs) a ok) (λ b. none_early e b from to a)
      by (single a) = one a
      by (added a z) = quiet (added_kept from to e (text_of e xs) a z ok) (λ b. none_between e b from to (omega arith) z (inr a))
      by (sign q) = quiet (alike_kept from to e (text_of e xs) (call_sign_lem from e q ∙ sym (call_sign_lem to e q)) (rw q) ok) (λ b. none_between e b from to (omega arith) (omega arith) (inl (omega arith)))
      by (country q) =
          wherever (crosses from to) (ap (λ (k : ℕ). solid (legal_texts from k)) q ∙ solid_country from)
          (filled_lost from to e (text_of e xs) (crosses from to) (λ b. subst (λ (k : ℕ). legal_text from k (text_of e xs) ≡ true → keeps from to k (text_of e xs) ≡ not (crosses from to)) (sym q) (country_kept from to (text_of e xs) b) ok))
          (λ b. country_in e b from to q)
      by (later a z) = in_target (is_first to) refl
        where
          in_target : (x : Bool) → is_first to ≡ x → Says
          in_target false f = quiet (later_kept e a z from to (text_of e xs) f ok) (λ b. none_later e b from to a z f)
          in_target true f = wherever true (solid_later from e a z) (filled_lost from to e (text_of e xs) true (λ k. later_gone e a z from to (text_of e xs) f)) (λ b. all_later e b from to a z f)

  pub first_lost : lost_at from to xs e ≡ named (lost_in from to) xs e
  first_lost = says.first ∙ ap (λ (c : ℕ). lost_in from to (in_element e) (get_or xs c 0)) (add-zero (start_of e))

  pub column_lost : e ≤ last_of to → (i : ℕ) → i < width_of e → cond (lost_in from to (in_column (start_of e + i)) (byte i)) 32 (byte i) ≡ cond (lost_at from to xs e) 32 (byte i)
  column_lost k i m = ap (λ (y : Bool). cond y 32 (byte i)) (gone i m) ∙ says.every_column k i m
