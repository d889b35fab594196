-- The byte in a column, as the code reads it. Assumes nothing.
use mathlib.Core.Path.{◌≡◌, refl, sym, ap, ◌∙◌}
use mathlib.Core.Bool.{Bool, true, ◌&&◌}
use mathlib.Core.List.{List, [], ◌∷◌}
use Prim.Native.Nat.{ℕ, zero, suc, ◌+◌, ◌-◌, ◌<◌, ◌≤◌}
use native.Mathlib.Nat.{le_of_suc-le-suc, not-suc-le-zero}
use native.Mathlib.Omega.{arith}
use lib.ListN.{length, get_or, get_or-eq_default, take, drop, length-drop}
use lib.Seq.{length-take-le}
use Rattle.std.proofs.lemmas.List.{get_or-drop, get_or-take}
use Rattle.std.specs.List.{fold}
use Rattle.text.specs.Bytes.{printable, every}
use Rattle.text.specs.First.{first_from}
use Rattle.text.proofs.First.{passed}
use Rattle.text.proofs.Every.{every_at}
use Rattle.text.proofs.Ways.{and_first, and_second}
use Rattle.layout.specs.Page.{start_of, first_byte}
use Rattle.checking.specs.Check.{column, printable_at}

-- what stands at a place within a list is the same whatever stands past its end
within : (l : List ℕ) (i d e : ℕ) → i < length l → get_or l i d ≡ get_or l i e
within [] i d e h = absurd (not-suc-le-zero h)
within (x ∷ l) zero d e h = refl
within (x ∷ l) (suc i) d e h = within l i d e (le_of_suc-le-suc h)

index : (c : ℕ) → suc c - 1 ≡ c
index c = omega arith

pub column_at : (xs : List ℕ) (c : ℕ) → 1 ≤ c → c ≤ length xs → column c xs ≡ get_or xs (c - 1) 0
unfolding column
column_at xs zero h l = absurd (not-suc-le-zero h)
column_at xs (suc c) h l = within xs c 32 0 l ∙ ap (λ (i : ℕ). get_or xs i 0) (sym (index c))

-- a column that document 01 speaks of, as the first byte of its element
pub first_of_lem : (xs : List ℕ) (e c : ℕ) → start_of e + 1 ≡ c → c ≤ length xs → column c xs ≡ first_byte e xs
first_of_lem xs e c at l = column_at xs c (omega arith) l ∙ ap (λ (i : ℕ). get_or xs i 0) (omega arith)

-- a column past the end is blank, and so is the column before the first
pub column_none : (xs : List ℕ) (c : ℕ) → length xs < c → column c xs ≡ 32
unfolding column
column_none xs zero h = absurd (not-suc-le-zero h)
column_none xs (suc c) h = get_or-eq_default xs 32 (le_of_suc-le-suc h)

pub blank_zero : (xs : List ℕ) → printable_at xs 0 ≡ true
unfolding column
blank_zero xs = refl

-- what the test of a byte says of its column
pub printed : (xs : List ℕ) (c : ℕ) → 1 ≤ c → c ≤ length xs → {r : Bool} → r ≡ printable (get_or xs (c - 1) 0) → r ≡ printable_at xs c
printed xs c h l e = e ∙ ap printable (sym (column_at xs c h l))

-- where every byte is printable, no column fails
all_print : (xs : List ℕ) (t : Bool) → fold (λ all byte. all && printable byte) t xs ≡ true → (t ≡ true) × (every printable xs ≡ true)
unfolding every
all_print [] t e = (e, refl)
all_print (x ∷ xs) t e =
    let later = all_print xs (t && printable x) e in
    let h : printable x ≡ true = and_second t (printable x) later.0 in
    (and_first t (printable x) later.0, rw h later.1)

-- nor does one of a run of columns that are printable
pub printable_run : (xs : List ℕ) (at end : ℕ) → at ≤ end → end ≤ length xs → fold (λ all byte. all && printable byte) true (take (end - at) (drop at xs)) ≡ true →
    first_from (printable_at xs) (at + 1) (length xs - at) ≡ first_from (printable_at xs) (end + 1) (length xs - end)
printable_run xs at end h k e =
    let all : length xs - at ≡ (end - at) + (length xs - end) = omega arith in
    let next : at + 1 + (end - at) ≡ end + 1 = omega arith in
    ap (first_from (printable_at xs) (at + 1)) all ∙ passed (printable_at xs) (at + 1) (end - at) (length xs - end) passes ∙ ap (λ i. first_from (printable_at xs) i (length xs - end)) next
  where
    run : List ℕ
    run = take (end - at) (drop at xs)

    each : (j : ℕ) → j < end - at → printable (get_or xs (at + j) 0) ≡ true
    each j l = ap printable (sym (get_or-drop at xs j 0) ∙ sym (get_or-take (end - at) (drop at xs) j 0 l)) ∙ every_at printable run (all_print run true e).1 j (rw (length-take-le (end - at) (drop at xs) (omega (arith, length-drop at xs))) l)

    passes : (j : ℕ) → at + 1 ≤ j → j < at + 1 + (end - at) → printable_at xs j ≡ true
    passes j a b =
        let place : at + (j - (at + 1)) ≡ j - 1 = omega arith in
        sym (printed xs j (omega arith) (omega arith) (sym (ap (λ i. printable (get_or xs i 0)) (sym place) ∙ each (j - (at + 1)) (omega arith))))
