-- Every tie holds where the elements are legal, and the columns, the temperatures and what an edition asks besides hold. Assumes nothing.
use mathlib.Core.Path.{◌≡◌, refl, sym, ap, ◌∙◌}
use mathlib.Core.Bool.{Bool, true, false, not, cond, ◌&&◌, ◌||◌, beq, true≢false}
use mathlib.Core.List.{List, [], ◌∷◌}
use mathlib.Core.Logic.{◌⊎◌, ⊎_elim}
use Prim.Native.Nat.{ℕ, zero, suc, ◌+◌, ◌*◌, ◌-◌, ◌%◌, ◌<◌, ◌≤◌}
use native.Mathlib.Nat.{le_refl}
use native.Mathlib.Omega.{arith}
use borrow.Author.Tests.{eqb-true, eqb-false, ne_eqb, leb-true, le-leb, lt-leb, not-true}
use lib.Dec.{eqb, leb}
use lib.ListN.{length, get_or, take, drop, length-drop, replicate}
use lib.Seq.{take-suc, get_or-drop}
use Rattle.text.specs.Bytes.{every, between, blank, digits, number, word, value_from}
use Rattle.text.specs.LegalTexts.{allows, among}
use Rattle.text.proofs.Ways.{and_first, and_second, second_holds, decide, imply}
use Rattle.text.proofs.Among.{either_half}
use Rattle.text.proofs.Below.{every_below, passes_below}
use Rattle.text.proofs.Blanks.{only_blank}
use Rattle.text.proofs.Order.{zeros}
use Rattle.text.proofs.Ranges.{greatest}
use Rattle.numerals.specs.Numerals.{spelled}
use Rattle.numerals.proofs.Spellings.{value_last}
use Rattle.layout.specs.declared.Edition.{Edition}
use Rattle.layout.specs.declared.Edition.TheVariants.{One, Three, Four}
use Rattle.layout.specs.Editions.{length_of, last_of}
use Rattle.text.specs.declared.LegalTexts.TheVariants.{Within}
use Rattle.layout.specs.Page.{page, element, width_of, columns, start_of, text_of, first_byte, legal_texts, may_be_blank, legal}
use Rattle.layout.proofs.Columns.{start_next, some_column}
use Rattle.layout.proofs.Elements.{last_below, in_each}
use Rattle.layout.proofs.Parts.{text_byte, one_byte}
use Rattle.layout.proofs.RecordLaws.{ends, begins, text_long}
use Rattle.layout.proofs.Beyond.{text_none, last_above}
use Rattle.places.specs.Places.{octant_fits}
use Rattle.ties.specs.Ties.{place_tie, octant_tie, minus, sign_tie, last_digit, tenths_fit, measured_fit, digit_tie, wind_tie, day_tie, ties, tie}
use Rattle.ties.proofs.Days.{in_every_year}
use Rattle.columns.specs.Tables.{allowed, joined, cell_of, cells_from, cells, cell_at, bonds, bonds_from, bond_at, inside, after, fits, Columns}
use Rattle.columns.proofs.Bonds.{after_blank, same_blank, first_says}
use Rattle.columns.proofs.Cells.{at_most_126}
use Rattle.glance.specs.Tests.{last_highest, plus_zero, top_digit, half_digit, last_fits, needs, far, octant_near}
use Rattle.glance.specs.Sure.{Degrees, Temperatures, InEveryYear, Rest}
use Rattle.glance.proofs.Wides.{spells, at_most, at_least}
use Rattle.glance.proofs.MonthDays.{has_day}

-- the ties of texts of which it is known whether they are blank
place_holds : (a b c : List ℕ) (x : Bool) → blank a ≡ x → blank b ≡ x → blank c ≡ x → place_tie a b c ≡ true
unfolding place_tie
place_holds a b c true p q r = rw (p, q, r)
place_holds a b c false p q r = rw (p, q, r)

wind_holds : (s i : List ℕ) (x y : Bool) → blank s ≡ x → blank i ≡ y → (y ≡ true → x ≡ true) → wind_tie s i ≡ true
unfolding wind_tie
wind_holds s i x true p q f = rw (p, f refl)
wind_holds s i x false p q f = second_holds (blank s) _ (rw q)

-- a sign that is no minus before zeros
minus_no : (a b c d : ℕ) → plus_zero (a + b * 256 + c * 65536 + d * 16777216) ≡ true → b ≡ 48 → c ≡ 48 → d ≡ 48 → minus (number (a ∷ [])) ≡ false
unfolding plus_zero value_from
minus_no a b c d h p q r =
    let n = a + b * 256 + c * 65536 + d * 16777216 in
    rw (ne_eqb (number (a ∷ [])) 1 (λ e. eqb-false n 808464433 (not-true _ (and_first _ _ h)) (omega arith)), ne_eqb (number (a ∷ [])) 6 (λ e. eqb-false n 808464438 (not-true _ (and_second (not (eqb n 808464433)) _ h)) (omega arith)))

and_none : (x y : Bool) → (y ≡ true → x ≡ false) → not (x && y) ≡ true
and_none true true f = absurd (true≢false (f refl))
and_none true false f = refl
and_none false y f = refl

sign_holds : (b : ℕ) (v : List ℕ) (x : Bool) → length v ≡ 3 → blank (b ∷ []) ≡ x → blank v ≡ x → (blank v || digits v) ≡ true → plus_zero (b + get_or v 0 0 * 256 + get_or v 1 0 * 65536 + get_or v 2 0 * 16777216) ≡ true →
    sign_tie (b ∷ []) v ≡ true
unfolding sign_tie value_from every
sign_holds b v true l p q d z =
    let blank-sign : b ≡ 32 = only_blank b (and_first _ _ p) in
    rw (p, q, blank-sign)
sign_holds b v false l p q d z =
    let whole : digits v ≡ true = rw q at d in
    rw (p, q) (and_none (minus (number (b ∷ []))) (eqb (number v) 0)
    (λ e. let t : v ≡ replicate (length v) 48 = zeros v whole (eqb-true (number v) 0 e) in
    let u : v ≡ replicate 3 48 = t ∙ ap (λ (n : ℕ). replicate n 48) l in
    minus_no b (get_or v 0 0) (get_or v 1 0) (get_or v 2 0) z (ap (λ (w : List ℕ). get_or w 0 0) u) (ap (λ (w : List ℕ). get_or w 1 0) u) (ap (λ (w : List ℕ). get_or w 2 0) u)))

-- a column more of a number
number_more : (xs : List ℕ) (at w : ℕ) → at + w < length xs → number (take (suc w) (drop at xs)) ≡ number (take w (drop at xs)) * 10 + (get_or xs (at + w) 0 - 48)
number_more xs at w h = rw (take-suc (drop at xs) w 0 (rw length-drop (omega arith)), get_or-drop at xs w 0) (value_last 10 48 (take w (drop at xs)) (get_or xs (at + w) 0))

free : (x : Bool) → cond x true true ≡ true
free true = refl
free false = refl

-- a last digit that column 1 takes
digit_holds : (f b m n : ℕ) → n ≡ m * 10 + (b - 48) → last_fits (top_digit f) (half_digit f) b ≡ true → last_digit (number (f ∷ [])) n ≡ true
unfolding last_digit last_fits top_digit half_digit value_from
digit_holds f b m n e h =
    decide (eqb f 51) (λ x. let three : number (f ∷ []) ≡ 3 = omega (arith, eqb-true f 51 x) in rw three)
    (λ x. ⊎_elim (λ y. nought (leb-true b 48 (rw x at y)))
    (λ y. decide (eqb f 53) (λ z. nought (omega (arith, eqb-true b 48 (rw z at y))))
    (λ z. let five : n % 10 ≡ 5 = omega (arith, eqb-true b 53 (rw z at y)) in
    rw (five, ne_eqb (number (f ∷ [])) 5 (λ g. eqb-false f 53 z (omega arith))) (free (eqb (number (f ∷ [])) 4))))
    (either_half (leb b (cond (eqb f 51) 57 48)) _ h))
  where
    nought : b ≤ 48 → last_digit (number (f ∷ [])) n ≡ true
    nought l = let none : n % 10 ≡ 0 = omega arith in rw none (decide (eqb (number (f ∷ [])) 4) (λ x. rw x) (λ x. rw x (free (eqb (number (f ∷ [])) 5))))

-- the n columns from s on each go with the next
abbrev bonded : ℕ → ℕ → Bool
bonded s n = every_below n (λ p. eqb (bond_at (s + p)) 61)

bond_of : (s n p : ℕ) → bonded s n ≡ true → p < n → bond_at (s + p) ≡ 61
bond_of s n p t h = eqb-true _ _ (passes_below n (λ p. eqb (bond_at (s + p)) 61) t p h)

module _ (ed : Edition) (xs : List ℕ) (full : length xs ≡ length_of ed) (cols : Columns ed xs) (legal-at : (e : ℕ) → 1 ≤ e → e ≤ last_of ed → legal ed xs e ≡ true) where
  joins : (s n p : ℕ) → bonded s n ≡ true → p < n → s + p < length_of ed → joined 61 (get_or xs (s + p) 0) (get_or xs (s + p + 1) 0) ≡ true
  joins s n p t h l = rw (bond_of s n p t h) at (cols (s + p) l).bound

  -- columns that go together are blank or filled as the first is
  along : (s n p : ℕ) → bonded s n ≡ true → p ≤ n → s + n ≤ length_of ed → eqb (get_or xs s 0) 32 ≡ eqb (get_or xs (s + p) 0) 32
  along s n zero t h l = ap (λ (i : ℕ). eqb (get_or xs i 0) 32) (omega arith)
  along s n (suc p) t h l =
      along s n p t (omega arith) l ∙ same_blank _ _ (joins s n p t (omega arith) (omega arith)) ∙ ap (λ (i : ℕ). eqb (get_or xs i 0) 32) (omega arith)

  module _ (e : ℕ) (l : 1 ≤ e) (h : e ≤ last_of ed) where
    -- an element, as the first of its columns says, where they go together
    says : bonded (start_of e) (width_of e - 1) ≡ true → blank (text_of e xs) ≡ eqb (first_byte e xs) 32
    says t =
        let long = text_long ed xs full e h in
        let some : 1 ≤ width_of e = some_column e l (omega (arith, last_below ed)) in
        first_says (text_of e xs) (rw long some)
        (λ p k. let m : suc p < width_of e = rw long at k in
        let i : start_of e + suc p ≡ start_of e + p + 1 = omega arith in
        rw (text_byte xs e p (omega arith), text_byte xs e (suc p) m, i) (joins (start_of e) (width_of e - 1) p t (omega arith) (omega (arith, ends ed e h)))) ∙
        ap (λ (b : ℕ). eqb b 32) (text_byte xs e 0 some ∙ ap (λ (i : ℕ). get_or xs i 0) (omega arith))

    -- and the next element, where its last column goes with that
    with_next : bonded (start_of e) (width_of e) ≡ true → eqb (first_byte e xs) 32 ≡ eqb (first_byte (e + 1) xs) 32
    with_next t = along (start_of e) (width_of e) (width_of e) t (le_refl (width_of e)) (ends ed e h) ∙ ap (λ (i : ℕ). eqb (get_or xs i 0) 32) (sym (start_next e))

  -- a number that may be blank: its digits, and a sign of one column that is at most 1
  module _ (e a b : ℕ) (m : may_be_blank e ≡ true) (t : legal_texts ed e ≡ Within a b) (k : 1 ≤ e) (l : e ≤ 85) where
    within : (blank (text_of e xs) ≡ true) ⊎ ((digits (text_of e xs) && between a b (number (text_of e xs))) ≡ true)
    unfolding legal allows
    within = either_half (blank (text_of e xs)) _ (rw (m, t) at (legal-at e k (omega (arith, last_above ed))))

    digits_of : (blank (text_of e xs) || digits (text_of e xs)) ≡ true
    digits_of = ⊎_elim (λ x. rw x) (λ x. second_holds (blank (text_of e xs)) _ (and_first _ _ x)) within

    low_sign : b ≤ 1 → (s : ℕ) → text_of e xs ≡ s ∷ [] → leb 53 s ≡ false
    unfolding value_from every
    low_sign h s q =
        let n : number (text_of e xs) ≡ s - 48 = ap number q ∙ omega arith in
        lt-leb 53 s (⊎_elim (λ x. omega (arith, only_blank s (and_first _ _ (rw q at x)))) (λ x. omega (arith, greatest a b _ (and_second (digits (text_of e xs)) _ x))) within)

  -- the sign in element e, and the temperature after it
  module _ (e : ℕ) (l : 1 ≤ e) (h : e + 1 ≤ last_of ed) (v : Degrees xs e) (one : width_of e ≡ 1) (three : width_of (e + 1) ≡ 3) where
    next : start_of (e + 1) ≡ start_of e + 1
    next = start_next e ∙ ap (λ (n : ℕ). start_of e + n) one

    sign : text_of e xs ≡ first_byte e xs ∷ []
    sign = one_byte xs e one (omega (arith, full, begins ed e l (omega arith)))

    at : (p : ℕ) → p < 3 → get_or (text_of (e + 1) xs) p 0 ≡ get_or xs (start_of e + (p + 1)) 0
    at p k = text_byte xs (e + 1) p (omega (arith, three)) ∙ ap (λ (i : ℕ). get_or xs i 0) (omega (arith, next))

    signed_at : bonded (start_of e) (width_of e) ≡ true → bonded (start_of (e + 1)) (width_of (e + 1) - 1) ≡ true → (blank (text_of (e + 1) xs) || digits (text_of (e + 1) xs)) ≡ true →
        sign_tie (text_of e xs) (text_of (e + 1) xs) ≡ true
    unfolding last_highest
    signed_at t u d =
        let alone = ap (λ (n : ℕ). bonded (start_of e) (n - 1)) one in
        rw sign
        (sign_holds (first_byte e xs) (text_of (e + 1) xs) (eqb (first_byte e xs) 32) (text_long ed xs full (e + 1) h ∙ three)
        (rw sign at (says e l (omega arith) alone))
        (says (e + 1) (omega arith) h u ∙ sym (with_next e l (omega arith) t))
        d (rw (at 0 (omega arith), at 1 (omega arith), at 2 (omega arith)) v.signed))

    -- column 1 binds the last digit with a sign below 5, and with one from 5 on the tie does not
    digit_at : leb 53 (first_byte e xs) ≡ false → tenths_fit (first_byte 1 xs ∷ []) (text_of (e + 1) xs) ≡ true
    unfolding text_of
    digit_at low =
        let s = start_of (e + 1) in
        let value : text_of (e + 1) xs ≡ take 3 (drop s xs) = ap (λ (n : ℕ). take n (drop s xs)) three in
        let last : get_or xs (s + 2) 0 ≡ get_or xs (start_of e + 3) 0 = ap (λ (i : ℕ). get_or xs i 0) (omega (arith, next)) in
        digit_holds (first_byte 1 xs) (get_or xs (start_of e + 3) 0) (number (take 2 (drop s xs))) _
        (ap number value ∙ number_more xs s 2 (omega (arith, full, three, ends ed (e + 1) h)) ∙ ap (λ (b : ℕ). number (take 2 (drop s xs)) * 10 + (b - 48)) last) (rw low at v.last)

    measured_at : measured_fit (first_byte 1 xs ∷ []) (text_of e xs) (text_of (e + 1) xs) ≡ true
    unfolding value_from
    measured_at =
        let b = first_byte e xs in
        decide (leb 53 b) (λ x. rw (sign, lt-leb (number (b ∷ [])) 2 (omega (arith, leb-true 53 b x)))) (λ x. rw (digit_at x) (free (leb (number (text_of e xs)) 2)))

  module _ (temps : Temperatures xs) where
    tie_1 : place_tie (text_of 6 xs) (text_of 7 xs) (text_of 8 xs) ≡ true
    unfolding start_of columns element page bond_at bonds bonds_from inside after
    tie_1 =
        let l = last_above ed in
        let latitude = with_next 6 (omega arith) (omega arith) refl in
        place_holds _ _ _ (eqb (first_byte 6 xs) 32) (says 6 (omega arith) (omega arith) refl) (says 7 (omega arith) (omega arith) refl ∙ sym latitude)
        (says 8 (omega arith) (omega arith) refl ∙ sym (latitude ∙ with_next 7 (omega arith) (omega arith) refl))

    tie_3 : sign_tie (text_of 16 xs) (text_of 17 xs) ≡ true
    unfolding start_of columns element page bond_at bonds bonds_from inside after
    tie_3 = signed_at 16 (omega arith) (omega (arith, last_above ed)) temps.0.0 refl refl refl refl (digits_of 17 0 999 refl (in_each ed 17 (Within 0 999) refl refl refl) (omega arith) (omega arith))

    tie_4 : sign_tie (text_of 18 xs) (text_of 19 xs) ≡ true
    unfolding start_of columns element page bond_at bonds bonds_from inside after
    tie_4 = signed_at 18 (omega arith) (omega (arith, last_above ed)) temps.0.1 refl refl refl refl (digits_of 19 0 999 refl (in_each ed 19 (Within 0 999) refl refl refl) (omega arith) (omega arith))

    tie_5 : sign_tie (text_of 28 xs) (text_of 29 xs) ≡ true
    unfolding start_of columns element page bond_at bonds bonds_from inside after
    tie_5 = signed_at 28 (omega arith) (omega (arith, last_above ed)) temps.1.0 refl refl refl refl (digits_of 29 0 999 refl (in_each ed 29 (Within 0 999) refl refl refl) (omega arith) (omega arith))

    tie_6 : sign_tie (text_of 50 xs) (text_of 51 xs) ≡ true
    unfolding start_of columns element page bond_at bonds bonds_from inside after
    tie_6 = signed_at 50 (omega arith) (omega (arith, last_above ed)) temps.1.1 refl refl refl refl (digits_of 51 0 999 refl (in_each ed 51 (Within 0 999) refl refl refl) (omega arith) (omega arith))

    tie_7 : tie ed xs 7 ≡ true
    unfolding element page tie digit_tie
    tie_7 =
        let l = last_above ed in
        let air = low_sign 16 0 1 refl (in_each ed 16 (Within 0 1) refl refl refl) (omega arith) (omega arith) (omega arith) _ (sign 16 (omega arith) (omega arith) temps.0.0 refl refl) in
        let sea = low_sign 28 0 1 refl (in_each ed 28 (Within 0 1) refl refl refl) (omega arith) (omega arith) (omega arith) _ (sign 28 (omega arith) (omega arith) temps.1.0 refl refl) in
        rw (
          one_byte xs 1 refl (omega (arith, full, begins ed 1 (omega arith) (omega arith))),
          digit_at 16 (omega arith) (omega arith) temps.0.0 refl refl air,
          measured_at 18 (omega arith) (omega arith) temps.0.1 refl refl,
          digit_at 28 (omega arith) (omega arith) temps.1.0 refl refl sea,
          measured_at 50 (omega arith) (omega arith) temps.1.1 refl refl,
        )

  tie_8 : wind_tie (text_of 15 xs) (text_of 14 xs) ≡ true
  unfolding start_of columns element page bond_at bonds bonds_from inside after
  tie_8 =
      let l = last_above ed in
      wind_holds _ _ (eqb (first_byte 15 xs) 32) (eqb (first_byte 14 xs) 32) (says 15 (omega arith) (omega arith) refl) (says 14 (omega arith) (omega arith) refl)
      (after_blank 62 _ _ (omega arith) (cols (start_of 14) (begins ed 14 (omega arith) (omega arith))).bound)

  -- RWS needs iw
  tie_9 : last_of ed ≡ 101 → needs (first_byte 93 xs) (first_byte 14 xs) ≡ true → wind_tie (text_of 93 xs) (text_of 14 xs) ≡ true
  unfolding start_of columns element page bond_at bonds bonds_from inside after needs
  tie_9 m h =
      wind_holds _ _ (eqb (first_byte 93 xs) 32) (eqb (first_byte 14 xs) 32) (says 93 (omega arith) (omega arith) refl) (says 14 (omega arith) (omega arith) refl)
      (λ e. decide (eqb (first_byte 93 xs) 32) (λ x. x) (λ x. absurd (true≢false (sym (rw (x, e) at h)))))

  -- the day exists in its month
  tie_10 : InEveryYear xs → day_tie (text_of 2 xs) (text_of 3 xs) (text_of 4 xs) ≡ true
  unfolding element page
  tie_10 h =
      let l = last_above ed in
      in_every_year (text_of 2 xs) (text_of 3 xs) (text_of 4 xs)
      (has_day (text_of 3 xs) (text_of 4 xs) (text_long ed xs full 3 (omega arith)) (text_long ed xs full 4 (omega arith))
      (within 3 1 12 refl (in_each ed 3 (Within 1 12) refl refl refl) (omega arith) (omega arith))
      (within 4 1 31 refl (in_each ed 4 (Within 1 31) refl refl refl) (omega arith) (omega arith)) h)

-- in edition 1 the octant goes with the longitude: what a column 12 may hold is near where it is not far
sides : ℕ → Bool
sides b = not (fits (cell_at One (start_of 6)) b && not (eqb b 32)) || beq (among 0 3 5 8 (number (b ∷ []))) (not (far b))

all_sides : every_below 127 sides ≡ true
unfolding sides start_of columns cell_at cells cells_from cell_of page allowed value_from
all_sides = refl

spells_900 : (w : ℕ) → w ≡ 4 → spells w 900 ≡ true
unfolding spelled every value_from
spells_900 w l = rw l

octant_holds : (b : ℕ) (t : List ℕ) → length t ≡ 4 → digits t ≡ true → beq (among 0 3 5 8 (number (b ∷ []))) (not (far b)) ≡ true → octant_near b (word t) ≡ true → octant_fits (number (b ∷ [])) (number t) ≡ true
unfolding octant_fits octant_near spelled value_from
octant_holds b t l d s h = by (among 0 3 5 8 (number (b ∷ []))) (far b) s h
  where
    by : (x y : Bool) → beq x (not y) ≡ true → cond y (leb 809054256 (word t)) (leb (word t) 809054256) ≡ true → cond x (leb (number t) 900) (leb 900 (number t)) ≡ true
    by true true s h = absurd (true≢false (sym s))
    by true false s h = le-leb (number t) 900 (at_most t d 900 (spells_900 _ l) (rw l (leb-true (word t) 809054256 h)))
    by false true s h = le-leb 900 (number t) (at_least t d 900 (spells_900 _ l) (rw l (leb-true 809054256 (word t) h)))
    by false false s h = absurd (true≢false (sym s))

tie_2 : (xs : List ℕ) → length xs ≡ 131 → Columns One xs → ((e : ℕ) → 1 ≤ e → e ≤ 85 → legal One xs e ≡ true) → octant_near (first_byte 6 xs) (word (text_of 8 xs)) ≡ true →
    octant_tie One (text_of 6 xs) (text_of 8 xs) ≡ true
unfolding octant_tie start_of columns element page bond_at bonds bonds_from inside after sides
tie_2 xs full cols legal-at h =
    let b = first_byte 6 xs in
    let one : text_of 6 xs ≡ b ∷ [] = one_byte xs 6 refl (omega (arith, begins One 6 (omega arith) (omega arith))) in
    let first : blank (text_of 6 xs) ≡ eqb b 32 = says One xs full cols legal-at 6 (omega arith) (omega arith) refl in
    let same : eqb b 32 ≡ eqb (first_byte 8 xs) 32 = with_next One xs full cols legal-at 6 (omega arith) (omega arith) refl ∙ with_next One xs full cols legal-at 7 (omega arith) (omega arith) refl in
    let there : blank (text_of 8 xs) ≡ eqb b 32 = says One xs full cols legal-at 8 (omega arith) (omega arith) refl ∙ sym same in
    let held = (cols (start_of 6) (begins One 6 (omega arith) (omega arith))).held in
    decide (eqb b 32) (λ e. rw (first ∙ e))
    (λ e. second_holds (blank (text_of 6 xs)) _
    (ap (λ (t : List ℕ). octant_fits (number t) (number (text_of 8 xs))) one ∙
    octant_holds b (text_of 8 xs) (text_long One xs full 8 (omega arith))
    (rw (there ∙ e) at (digits_of One xs full cols legal-at 8 0 1800 refl refl (omega arith) (omega arith)))
    (imply (fits (cell_at One (start_of 6)) b && not (eqb b 32)) _ (passes_below 127 sides all_sides b (omega (arith, at_most_126 One (start_of 6) b held))) (rw (held, e))) h))

-- a list of tests that all pass
AllHold : List Bool → Type 0
AllHold [] = Unit
AllHold (t ∷ ts) = (t ≡ true) × AllHold ts

held_at : (ts : List Bool) → AllHold ts → (k : ℕ) → get_or ts k true ≡ true
unfolding AllHold
held_at [] a zero = refl
held_at [] a (suc k) = refl
held_at (t ∷ ts) a zero = a.0
held_at (t ∷ ts) a (suc k) = held_at ts a.1 k

module _ (ed : Edition) (xs : List ℕ) (full : length xs ≡ length_of ed) (cols : Columns ed xs) (legal-at : (e : ℕ) → 1 ≤ e → e ≤ last_of ed → legal ed xs e ≡ true) (temps : Temperatures xs) (day : InEveryYear xs) where
  all_hold : octant_tie ed (text_of 6 xs) (text_of 8 xs) ≡ true → wind_tie (text_of 93 xs) (text_of 14 xs) ≡ true → AllHold (true ∷ ties ed xs)
  unfolding AllHold tie
  all_hold octant swift =
      let l = legal-at in
      (refl, (tie_1 ed xs full cols l temps, (octant, (tie_3 ed xs full cols l temps, (tie_4 ed xs full cols l temps, (tie_5 ed xs full cols l temps, (tie_6 ed xs full cols l temps, (tie_7 ed xs full cols l temps, (tie_8 ed xs full cols l, (swift, (tie_10 ed xs full cols l day, tt)))))))))))

pub tied : (ed : Edition) (xs : List ℕ) → length xs ≡ length_of ed → Columns ed xs → ((e : ℕ) → 1 ≤ e → e ≤ last_of ed → legal ed xs e ≡ true) → Temperatures xs → InEveryYear xs → Rest ed xs → (k : ℕ) → tie ed xs k ≡ true
unfolding tie octant_tie wind_tie every
tied One xs full cols l temps day r k = held_at (true ∷ ties One xs) (all_hold One xs full cols l temps day (tie_2 xs full cols l r) (rw (text_none One xs full 93 (omega arith)))) k
tied Three xs full cols l temps day r k = held_at (true ∷ ties Three xs) (all_hold Three xs full cols l temps day refl (tie_9 Three xs full cols l refl r.1.1)) k
tied Four xs full cols l temps day r k = held_at (true ∷ ties Four xs) (all_hold Four xs full cols l temps day refl (tie_9 Four xs full cols l refl r.1.1)) k
