-- Every element is legal where the columns, the numbers and the codes hold. antt computes over the page that the elements of one column are their cells,
-- and that each wider one has its bonds and its limits. Assumes nothing.
use mathlib.Core.Path.{◌≡◌, refl, sym, ap, ◌∙◌, subst}
use mathlib.Core.Bool.{Bool, true, false, not, cond, ◌&&◌, ◌||◌, true≢false}
use mathlib.Core.List.{List, [], ◌∷◌, ◌++◌}
use mathlib.Core.Logic.{⊎_elim}
use Prim.Native.Nat.{ℕ, zero, suc, ◌+◌, ◌-◌, ◌<◌, ◌≤◌}
use native.Mathlib.Omega.{arith}
use borrow.Author.Tests.{eqb-true}
use lib.Dec.{eqb}
use lib.ListN.{length, get_or}
use Rattle.text.specs.Bytes.{every, value_from, word, run}
use Rattle.text.specs.LegalTexts.{allows, member}
use Rattle.text.proofs.Ways.{and_first, and_second, second_holds, decide, imply}
use Rattle.text.proofs.Among.{either_half}
use Rattle.text.proofs.Below.{every_below, passes_below}
use Rattle.numerals.specs.Numerals.{spelled}
use Rattle.layout.specs.declared.Edition.{Edition}
use Rattle.layout.specs.declared.Edition.TheVariants.{One, Three, Four}
use Rattle.std.proofs.Common.{Option, Some, None}
use Rattle.layout.specs.Editions.{edition_of, length_of, last_of}
use Rattle.layout.specs.Page.{page, element, width_of, columns, start_of, text_of, first_byte, legal_texts, may_be_blank, legal_text, legal}
use Rattle.layout.proofs.Parts.{text_byte, one_byte}
use Rattle.layout.proofs.RecordLaws.{ends, text_long}
use Rattle.columns.specs.Tables.{allowed, joined, cell_of, bonds, bonds_from, bond_at, inside, after, fits, Columns}
use Rattle.columns.proofs.Cells.{at_most_126, cell_at_lem}
use Rattle.glance.specs.Tests.{neither}
use Rattle.glance.specs.Limits.{Limit, limit_of, limits, Limited}
use Rattle.glance.specs.Sure.{All, Limits, dates, places, winds, falls, courses, Codes, Rest}
use Rattle.glance.proofs.Wides.{wanted, unlimited, told, legal_wide}

-- the elements whose limits all editions look at, and an edition
abbrev numbered : List ℕ
numbered = dates ++ (places ++ (winds ++ falls))

abbrev listed : Edition → List ℕ
listed One = numbered
listed Three = numbered ++ courses
listed Four = numbered ++ courses

pub join : (P : ℕ → Type 0) (a b : List ℕ) → All P a → All P b → All P (a ++ b)
unfolding All
join P [] b p q = q
join P (e ∷ a) b p q = (p.0, join P a b p.1 q)

pick : (P : ℕ → Type 0) (l : List ℕ) → All P l → (e : ℕ) → member e l ≡ true → P e
unfolding All member
pick P [] a e h = absurd (true≢false (sym h))
pick P (x ∷ l) a e h = ⊎_elim (λ p. subst P (sym (eqb-true e x p)) a.0) (λ p. pick P l a.1 e p) (either_half (eqb e x) _ h)

-- what the codes say of the byte of an element of one column, beyond its cell
quadrant : Edition → ℕ → Bool
quadrant One b = true
quadrant Three b = neither 50 54 b
quadrant Four b = neither 50 54 b

extra : Edition → ℕ → ℕ → Bool
extra ed e b = cond (eqb e 1 || eqb e 65) (not (eqb b 32)) (cond (eqb e 46) (neither 50 51 b) (cond (eqb e 6) (quadrant ed b) true))

-- each byte that the cell and the code allow is legal alone
sound : Edition → ℕ → ℕ → Bool
sound ed e b = not (fits (cell_of 1 (legal_texts ed e)) b && extra ed e b) || legal_text ed e (b ∷ [])

single : Edition → ℕ → Bool
single ed e = every_below 127 (sound ed e)

-- a wider element has its bonds, and has no limits or they were looked at
same_limit : Limit → Limit → Bool
same_limit l m = eqb l.top m.top && (eqb l.gap m.gap && eqb l.end m.end)

bonded : Edition → ℕ → Bool
bonded ed e = every_below (width_of e - 1) (λ p. eqb (bond_at (start_of e + p)) (wanted (legal_texts ed e) p))

bounded : Edition → ℕ → Bool
bounded ed e = unlimited (width_of e) (legal_texts ed e) || (member e (listed ed) && same_limit (limit_of (width_of e) (legal_texts ed e)) (limit_of (width_of e) (element e).in4))

wide : Edition → ℕ → Bool
wide ed e = (may_be_blank e && told (legal_texts ed e) (width_of e)) && (bonded ed e && bounded ed e)

fine : Edition → ℕ → Bool
fine ed e = cond (eqb (width_of e) 1) (single ed e) (wide ed e)

-- element 0 has no columns
all_fine : (ed : Edition) → every_below (last_of ed) (λ e. fine ed (suc e)) ≡ true
unfolding fine single sound wide bonded bounded same_limit member extra quadrant element page start_of columns bond_at bonds bonds_from inside after cell_of limit_of allowed neither allows every value_from run spelled
all_fine One = refl
all_fine Three = refl
all_fine Four = refl

same_limits : (l m : Limit) (n : ℕ) → same_limit l m ≡ true → limits m n ≡ true → limits l n ≡ true
unfolding same_limit
same_limits l m n s h =
    let t = and_second (eqb l.top m.top) _ s in
    rw (eqb-true l.top m.top (and_first _ _ s), eqb-true l.gap m.gap (and_first _ _ t), eqb-true l.end m.end (and_second (eqb l.gap m.gap) _ t)) h

held_if : (t a b : Bool) → (t ≡ true → a ≡ true) → b ≡ true → cond t a b ≡ true
held_if true a b f g = f refl
held_if false a b f g = g

-- column 111 names an edition, so it is not blank
named_there : (ed : Edition) (b : ℕ) → edition_of b ≡ Some ed → eqb b 32 ≡ false
named_there ed b n = decide (eqb b 32) (λ e. let g : ◌≡◌ {A = Option Edition} None (Some ed) = rw (eqb-true b 32 e) at n in let z : ◌≡◌ {A = ℕ} 0 1 = cc in absurd (omega arith)) (λ e. e)

-- a text that is blank or allowed is legal where it may be blank
may_be : (m b a : Bool) → m ≡ true → (b || a) ≡ true → ((m && b) || a) ≡ true
may_be true b a e h = h
may_be false b a e h = absurd (true≢false (sym e))

module _ (ed : Edition) (xs : List ℕ) (full : length xs ≡ length_of ed) (named : edition_of (first_byte 65 xs) ≡ Some ed) (cols : Columns ed xs) (nums : Limits (dates ++ (places ++ (winds ++ falls))) xs) (codes : Codes xs) (rest : Rest ed xs) where
  quadrant_holds : (ed : Edition) → Rest ed xs → quadrant ed (first_byte 6 xs) ≡ true
  unfolding quadrant
  quadrant_holds One l = refl
  quadrant_holds Three l = l.1.0
  quadrant_holds Four l = l.1.0

  at_element : (P : ℕ → Type 0) (e k : ℕ) → eqb e k ≡ true → P (first_byte k xs) → P (first_byte e xs)
  at_element P e k q h = rw (eqb-true e k q) h

  extra_holds : (e : ℕ) → extra ed e (first_byte e xs) ≡ true
  unfolding extra
  extra_holds e =
      held_if (eqb e 1 || eqb e 65) _ _
      (λ t. ⊎_elim (λ q. at_element (λ b. not (eqb b 32) ≡ true) e 1 q (ap not codes.0)) (λ q. at_element (λ b. not (eqb b 32) ≡ true) e 65 q (ap not (named_there ed (first_byte 65 xs) named))) (either_half (eqb e 1) _ t))
      (held_if (eqb e 46) _ _ (λ q. at_element (λ b. neither 50 51 b ≡ true) e 46 q codes.1)
      (held_if (eqb e 6) _ _ (λ q. at_element (λ b. quadrant ed b ≡ true) e 6 q (quadrant_holds ed rest)) refl))

  limits_of : (ed : Edition) → Rest ed xs → (e : ℕ) → member e (listed ed) ≡ true → Limited xs e
  limits_of One l e t = pick _ numbered nums e t
  limits_of Three l e t = pick _ (numbered ++ courses) (join _ numbered courses nums l.0) e t
  limits_of Four l e t = pick _ (numbered ++ courses) (join _ numbered courses nums l.0) e t

  module _ (e : ℕ) (h : e ≤ last_of ed) where
    place : (p : ℕ) → p < width_of e → start_of e + p < length_of ed
    place p l = omega (arith, ends ed e h)

    held_at : (p : ℕ) → p < width_of e → fits (cell_of (width_of e) (legal_texts ed e)) (get_or xs (start_of e + p) 0) ≡ true
    held_at p l = rw (cell_at_lem ed e p l) at (cols (start_of e + p) (place p l)).held

    -- an element of one column
    legal_single : width_of e ≡ 1 → single ed e ≡ true → legal ed xs e ≡ true
    unfolding single sound legal
    legal_single w t =
        let b = first_byte e xs in
        let here : get_or xs (start_of e + 0) 0 ≡ b = ap (λ (i : ℕ). get_or xs i 0) (omega arith) in
        let first : 0 < width_of e = omega arith in
        let f : fits (cell_of 1 (legal_texts ed e)) b ≡ true =
        ap (λ (n : ℕ). fits (cell_of n (legal_texts ed e)) b) (sym w) ∙ ap (λ (x : ℕ). fits (cell_of (width_of e) (legal_texts ed e)) x) (sym here) ∙ held_at 0 first in
        let u : b ≤ 126 = omega (arith, here, at_most_126 ed (start_of e + 0) _ (cols (start_of e + 0) (place 0 first)).held) in
        let text : text_of e xs ≡ b ∷ [] = one_byte xs e w (omega (arith, place 0 first, full)) in
        ap (legal_text ed e) text ∙ imply (fits (cell_of 1 (legal_texts ed e)) b && extra ed e b) _ (passes_below 127 (sound ed e) t b (omega arith)) (rw (f, extra_holds e))

    -- a wider one
    legal_several : wide ed e ≡ true → legal ed xs e ≡ true
    unfolding wide legal bonded bounded
    legal_several t =
        let a = and_first (may_be_blank e && told (legal_texts ed e) (width_of e)) _ t in
        let r = and_second (may_be_blank e && told (legal_texts ed e) (width_of e)) _ t in
        let long = text_long ed xs full e h in
        may_be (may_be_blank e) _ _ (and_first _ _ a)
        (legal_wide (text_of e xs) (legal_texts ed e)
        (rw long (and_second (may_be_blank e) _ a))
        (λ p l. rw (long, text_byte xs e p (rw long at l)) (held_at p (rw long at l)))
        (λ p l. let m : suc p < width_of e = rw long at l in
        let i : start_of e + suc p ≡ start_of e + p + 1 = omega arith in
        let q : bond_at (start_of e + p) ≡ wanted (legal_texts ed e) p = eqb-true _ _ (passes_below (width_of e - 1) _ (and_first _ _ r) p (omega arith)) in
        ap (λ (k : ℕ). joined k (get_or (text_of e xs) p 0) (get_or (text_of e xs) (suc p) 0)) (sym q) ∙ rw (text_byte xs e p (omega arith), text_byte xs e (suc p) m, i) (cols (start_of e + p) (place p (omega arith))).bound)
        (rw long (⊎_elim
        (λ x. rw x)
        (λ x. second_holds (unlimited (width_of e) (legal_texts ed e)) _ (same_limits _ _ (word (text_of e xs)) (and_second (member e (listed ed)) _ x) (limits_of ed rest e (and_first _ _ x))))
        (either_half (unlimited (width_of e) (legal_texts ed e)) _ (and_second (bonded ed e) _ r)))))

  pub lawful : (e : ℕ) → 1 ≤ e → e ≤ last_of ed → legal ed xs e ≡ true
  unfolding fine
  lawful zero l h = absurd (omega arith)
  lawful (suc e) l h =
      let t : fine ed (suc e) ≡ true = passes_below (last_of ed) (λ i. fine ed (suc i)) (all_fine ed) e (omega arith) in
      decide (eqb (width_of (suc e)) 1)
      (λ w. legal_single (suc e) h (eqb-true _ _ w) (rw w at t))
      (λ w. legal_several (suc e) h (rw w at t))
