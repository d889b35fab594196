-- A record made of texts, each as wide as its element: it is as long as its edition and has each text where the page has it. And two records with the same
-- texts are equal. Assumes nothing.
use mathlib.Core.Path.{◌≡◌, refl, sym, ap, ◌∙◌}
use mathlib.Core.List.{List, ◌++◌}
use Prim.Native.Nat.{ℕ, zero, suc, ◌+◌, ◌-◌, ◌<◌, ◌≤◌}
use native.Mathlib.Nat.{add-zero, zero-add, add-suc, suc-add, le_refl}
use native.Mathlib.Numerals.{add-one}
use native.Mathlib.Omega.{arith}
use lib.Dec.{lit≤}
use lib.ListN.{length, take, drop, length-append, length-drop}
use lib.Seq.{take_all, take_at, drop_at, length-take-le, take-take, take-add, drop-drop}
use Rattle.std.proofs.Common.{Some}
use Rattle.layout.specs.declared.Edition.{Edition}
use Rattle.layout.specs.declared.Edition.TheVariants.{One, Three, Four}
use Rattle.layout.specs.Editions.{asked, edition_number, length_of, last_of}
use Rattle.layout.specs.Page.{columns, width_of, start_of, text_of}
use Rattle.layout.specs.Records.{row_from, record_from}
use Rattle.layout.proofs.Columns.{start_next, start_rises, filled, some_column}
use Rattle.layout.proofs.Elements.{last_below}

-- a part of the front of a list is the part of the list
pub part_of_front : {A : Type 0} (s w n : ℕ) (l : List A) → s + w ≤ n → n ≤ length l → take w (drop s (take n l)) ≡ take w (drop s l)
part_of_front s w n l h k = sym (cut s w (take n l) (omega (arith, length-take-le n l k))) ∙ ap (drop s) (take-take (s + w) n l h) ∙ cut s w l (omega arith)
  where
    cut : {A : Type 0} (s w : ℕ) (l : List A) → s + w ≤ length l → drop s (take (s + w) l) ≡ take w (drop s l)
    cut s w l h = ap (drop s) (take-add s w l) ∙ drop_at (take s l) (take w (drop s l)) s (length-take-le s l (omega arith))

-- an edition goes by its number
pub by_number : (ed : Edition) → asked (edition_number ed) ≡ Some ed
by_number One = refl
by_number Three = refl
by_number Four = refl

-- two editions that go by one number are one
pub same_number : (a b : Edition) → edition_number a ≡ edition_number b → a ≡ b
same_number a b e = let known : Some a ≡ Some b = sym (by_number a) ∙ ap asked e ∙ by_number b in cc

-- the longest record has 159 columns, the shortest 131
pub most : (ed : Edition) → length_of ed ≤ 159
most One = lit≤ tt
most Three = lit≤ tt
most Four = lit≤ tt

pub shortest : (ed : Edition) → 131 ≤ length_of ed
shortest One = lit≤ tt
shortest Three = lit≤ tt
shortest Four = lit≤ tt

pub first : start_of 1 ≡ 0
unfolding start_of columns
first = refl

-- an element that the edition has ends within its length
pub ends : (ed : Edition) (e : ℕ) → e ≤ last_of ed → start_of e + width_of e ≤ length_of ed
ends ed e h = omega (arith, start_next e, start_rises (e + 1) (last_of ed + 1) (omega arith), filled ed)

pub begins : (ed : Edition) (e : ℕ) → 1 ≤ e → e ≤ last_of ed → start_of e < length_of ed
begins ed e l h = omega (arith, ends ed e h, some_column e l (omega (arith, last_below ed)))

-- so a line that is long enough has its columns, and the first of them
module _ (ed : Edition) (xs : List ℕ) (long : length_of ed ≤ length xs) (e : ℕ) where
  pub has_first : 1 ≤ e → e ≤ last_of ed → start_of e < length xs
  has_first l h = omega (arith, begins ed e l h)

-- within a record an element has as many columns as it is wide
pub text_long : (ed : Edition) (xs : List ℕ) → length xs ≡ length_of ed → (e : ℕ) → e ≤ last_of ed → length (text_of e xs) ≡ width_of e
unfolding text_of
text_long ed xs full e h = length-take-le (width_of e) (drop (start_of e) xs) (rw length-drop (omega (arith, full, ends ed e h)))

left : (n k : ℕ) → k ≤ n → n + 1 - k ≡ suc (n + 1 - (k + 1))
left n k h = omega arith

module _ (text : ℕ → List ℕ) where
  pub one_more : (e : ℕ) → e ≤ 101 → row_from text e (101 + 1 - e) ≡ text e ++ row_from text (e + 1) (101 + 1 - (e + 1))
  unfolding row_from
  one_more e h = ap (row_from text e) (left 101 e h) ∙ ap (λ (k : ℕ). text e ++ row_from text k (101 + 1 - (e + 1))) (sym (add-one e))

module _ (text : ℕ → List ℕ) (wide : (e : ℕ) → length (text e) ≡ width_of e) where
  -- from element e on the row is the texts from e on
  row_from_lem : (e : ℕ) → e ≤ 100 → drop (start_of (e + 1)) (row_from text 1 101) ≡ row_from text (e + 1) (101 + 1 - (e + 1))
  unfolding start_of columns
  row_from_lem zero h = refl
  row_from_lem (suc e) h = rw (← add-one e)
      (ap (λ (k : ℕ). drop k (row_from text 1 101)) (start_next (e + 1)) ∙ sym (drop-drop (width_of (e + 1)) (start_of (e + 1)) (row_from text 1 101)) ∙
      ap (drop (width_of (e + 1))) (row_from_lem e (omega arith) ∙ one_more text (e + 1) (omega arith)) ∙
      drop_at (text (e + 1)) (row_from text (e + 1 + 1) (101 + 1 - (e + 1 + 1))) (width_of (e + 1)) (wide (e + 1)))

  measured : (n e : ℕ) → length (row_from text e n) + start_of e ≡ start_of (e + n)
  unfolding row_from
  measured zero e = rw (add-zero, zero-add)
  measured (suc n) e =
      let next : start_of (suc e) ≡ start_of e + width_of e = rw add-one at (start_next e) in
      let rest = measured n (suc e) in
      let both : length (text e ++ row_from text (suc e) n) ≡ width_of e + length (row_from text (suc e) n) =
      length-append (text e) (row_from text (suc e) n) ∙ ap (λ (k : ℕ). k + length (row_from text (suc e) n)) (wide e) in
      rw (add-suc, ← suc-add) (omega (arith, next, rest, both))

  pub row_length : length (row_from text 1 101) ≡ 159
  row_length = omega (arith, measured 101 1, filled Four, first)

  pub record_long : (ed : Edition) → length (record_from ed text) ≡ length_of ed
  unfolding record_from
  record_long ed = length-take-le (length_of ed) (row_from text 1 101) (omega (arith, row_length, most ed))

  text_in_row : (e : ℕ) → e ≤ 100 → text_of (e + 1) (row_from text 1 101) ≡ text (e + 1)
  unfolding text_of
  text_in_row e h =
      ap (take (width_of (e + 1))) (row_from_lem e h ∙ one_more text (e + 1) (omega arith)) ∙
      take_at (text (e + 1)) (row_from text (e + 1 + 1) (101 + 1 - (e + 1 + 1))) (width_of (e + 1)) (wide (e + 1))

  -- each element's text stands where the page has it
  pub record_text : (ed : Edition) (e : ℕ) → 1 ≤ e → e ≤ last_of ed → text_of e (record_from ed text) ≡ text e
  unfolding record_from text_of
  record_text ed zero h l = absurd (omega arith)
  record_text ed (suc e) h l =
      part_of_front (start_of (suc e)) (width_of (suc e)) (length_of ed) (row_from text 1 101) (ends ed (suc e) l) (omega (arith, row_length, most ed)) ∙
      rw (← add-one e) (text_in_row e (omega (arith, last_below ed)))

-- two records of one edition with the same texts are the same record
module _ (ed : Edition) (xs ys : List ℕ) (same : (e : ℕ) → 1 ≤ e → e ≤ last_of ed → text_of e xs ≡ text_of e ys) where
  fronts : (e : ℕ) → e ≤ last_of ed → take (start_of (e + 1)) xs ≡ take (start_of (e + 1)) ys
  unfolding text_of
  fronts zero h = ap (λ (k : ℕ). take k xs) first ∙ sym (ap (λ (k : ℕ). take k ys) first)
  fronts (suc e) h =
      let text : take (width_of (e + 1)) (drop (start_of (e + 1)) xs) ≡ take (width_of (e + 1)) (drop (start_of (e + 1)) ys) = same (e + 1) (omega arith) (omega arith) in
      rw (← add-one e, start_next (e + 1), take-add (start_of (e + 1)) (width_of (e + 1)) xs, take-add (start_of (e + 1)) (width_of (e + 1)) ys, fronts e (omega arith), text)

  pub same_record : length xs ≡ length_of ed → length ys ≡ length_of ed → xs ≡ ys
  same_record f g =
      sym (take_all (start_of (last_of ed + 1)) xs (omega (arith, filled ed))) ∙ fronts (last_of ed) (le_refl (last_of ed)) ∙ take_all (start_of (last_of ed + 1)) ys (omega (arith, filled ed))
