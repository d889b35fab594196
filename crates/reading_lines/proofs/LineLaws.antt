-- The lines of elements one after the other, and two texts compared byte by byte. Assumes nothing.
use mathlib.Core.Path.{◌≡◌, refl, sym, ap, ◌∙◌}
use mathlib.Core.Bool.{Bool, ◌&&◌}
use mathlib.Core.List.{List, [], ◌∷◌, ◌++◌, append_assoc, append-nil}
use Prim.Native.Nat.{ℕ, zero, suc, ◌+◌, ◌*◌, ◌<◌, ◌≤◌}
use native.Mathlib.Nat.{add-zero}
use native.Mathlib.Numerals.{add-one}
use native.Mathlib.Omega.{arith}
use lib.Dec.{eqb}
use lib.Pointwise.{pointwise}
use lib.ListN.{length, get_or, take}
use lib.Seq.{take_all}
use Rattle.reading.specs.declared.Reading.{Reading}
use Rattle.reading.specs.declared.Reading.TheVariants.{Missing, Code, Text, Amount, At}
use Rattle.wording.specs.declared.sheet.Sheet.{Sheet}
use Rattle.wording.specs.Puts.{Adds}
use Rattle.wording.specs.Wording.{line_end}
use Rattle.wording.proofs.PutLaws.{then, said_as, within, unchanged}
use Rattle.report_lines.specs.Says.{line_most}
use Rattle.reading_lines.specs.Sentences.{element_of, reading_words, reading_line, reading_lines, same_text}

-- one element more
lines_next : (count : List ℕ) (e k : ℕ) (rs : List Reading) → k < length rs →
    reading_lines count e (take k rs) ++ reading_line count (e + k) (get_or rs k Missing) ≡ reading_lines count e (take (suc k) rs)
unfolding reading_lines
lines_next count e k [] h = absurd (omega arith)
lines_next count e zero (r ∷ rs) h = ap (λ (i : ℕ). reading_line count i r) (add-zero e) ∙ sym (append-nil (reading_line count e r))
lines_next count e (suc k) (r ∷ rs) h =
    let place : e + suc k ≡ e + 1 + k = omega arith in
    append_assoc (reading_line count e r) (reading_lines count (e + 1) (take k rs)) _ ∙
    ap (λ (i : ℕ). reading_line count e r ++ (reading_lines count (e + 1) (take k rs) ++ reading_line count i (get_or rs k Missing))) place ∙
    ap (λ (t : List ℕ). reading_line count e r ++ t) (lines_next count (e + 1) k rs (omega arith))

-- a line is the element, what it reads as, and the end of a line
pub as_line : (count : List ℕ) (e : ℕ) (r : Reading) → (r ≡ Missing → ⊥) → element_of count e ++ reading_words r ++ line_end ≡ reading_line count e r
unfolding reading_line
as_line count e Missing h = absurd (h refl)
as_line count e (Code v) h = refl
as_line count e (Text v) h = refl
as_line count e (Amount a kind) h = refl
as_line count e (At place) h = refl

pub no_line : (count : List ℕ) (e : ℕ) (s : Sheet) → Adds (reading_line count e Missing) line_most s s
unfolding reading_line
no_line count e s = within (omega arith) (unchanged s)

-- the lines of the first k elements are put, and the one of the next
module _ (count : List ℕ) (rs : List Reading) where
  abbrev pub lines_to : ℕ → List ℕ
  lines_to k = reading_lines count 1 (take k rs)

  pub lines_none : (s : Sheet) → Adds (lines_to 0) 0 s s
  unfolding reading_lines
  lines_none s = unchanged s

  module _ (full : length rs ≡ 101) (k : ℕ) {before now : Sheet} where
    pub lines_more : {later : Sheet} → k < 101 → Adds (lines_to k) (112 * k) before now → Adds (reading_line count (k + 1) (get_or rs k Missing)) 112 now later →
        Adds (lines_to (k + 1)) (112 * (k + 1)) before later
    lines_more h p q =
        let place : k + 1 ≡ 1 + k = omega arith in
        let next : lines_to k ++ reading_line count (k + 1) (get_or rs k Missing) ≡ lines_to (k + 1) =
        ap (λ (e : ℕ). lines_to k ++ reading_line count e (get_or rs k Missing)) place ∙ lines_next count 1 k rs (omega arith) ∙ ap lines_to (sym (add-one k)) in
        said_as next (omega arith) (then p q)

    pub lines_all : 101 ≤ k → Adds (lines_to k) 11312 before now → Adds (reading_lines count 1 rs) 11312 before now
    lines_all h p = said_as (ap (reading_lines count 1) (take_all k rs (omega arith))) (omega arith) p

-- `==` of two texts says whether they are the same
pub compared : (a b : List ℕ) → pointwise eqb a b ≡ same_text a b
unfolding same_text
compared [] [] = refl
compared [] (y ∷ b) = refl
compared (x ∷ a) [] = refl
compared (x ∷ a) (y ∷ b) = ap (λ (t : Bool). eqb x y && t) (compared a b)
