-- An element whose texts have no blank in them: its first byte says whether it is filled. Assumes nothing.
use mathlib.Core.Path.{◌≡◌, refl, sym, ap, ◌∙◌}
use mathlib.Core.Bool.{Bool, true, false, not, ◌&&◌, ◌||◌, true≢false}
use mathlib.Core.List.{List, [], ◌∷◌}
use mathlib.Core.Logic.{⊎_elim}
use Prim.Native.Nat.{ℕ, ◌≤◌}
use native.Mathlib.Omega.{arith}
use borrow.Author.Tests.{eqb-true, eqb-false, eq-eqb, ne_eqb, le-leb}
use lib.Dec.{eqb}
use lib.ListN.{length, get_or}
use Rattle.text.specs.Bytes.{every, between, blank}
use Rattle.text.specs.LegalTexts.{allows}
use Rattle.text.specs.declared.LegalTexts.{LegalTexts}
use Rattle.text.specs.declared.LegalTexts.TheVariants.{Nothing, Printable, Letters, CallSign, DigitOr, Within, Either, OneOf}
use Rattle.text.proofs.Ways.{and_first}
use Rattle.text.proofs.Among.{either_half}
use Rattle.text.proofs.Blanks.{only_blank}
use Rattle.text.proofs.Ranges.{least}

-- texts in which no blank stands
abbrev pub solid : LegalTexts → Bool
solid Letters = true
solid (Within a b) = true
solid (Either a b c d) = true
solid Nothing = true
solid Printable = false
solid CallSign = false
solid (DigitOr x) = false
solid (OneOf a b c d) = false

not_32 : (lo hi b : ℕ) → 33 ≤ lo → between lo hi b ≡ true → eqb b 32 ≡ false
not_32 lo hi b h e = ne_eqb b 32 (λ z. omega (arith, least lo hi b e))

filled_first : (s : LegalTexts) → solid s ≡ true → (b : ℕ) (t : List ℕ) → allows s (b ∷ t) ≡ true → eqb b 32 ≡ false
unfolding allows every
filled_first Letters k b t h = not_32 65 90 b (omega arith) (and_first _ _ h)
filled_first (Within x y) k b t h = not_32 48 57 b (omega arith) (and_first _ _ (and_first _ _ h))
filled_first (Either x y z w) k b t h = not_32 48 57 b (omega arith) (and_first _ _ (and_first _ _ h))
filled_first Nothing k b t h = absurd (true≢false (sym h))
filled_first Printable k b t h = absurd (true≢false (sym k))
filled_first CallSign k b t h = absurd (true≢false (sym k))
filled_first (DigitOr x) k b t h = absurd (true≢false (sym k))
filled_first (OneOf x y z w) k b t h = absurd (true≢false (sym k))

-- what is legal is blank or one of the texts
pub legal_half : (m b a : Bool) → ((m && b) || a) ≡ true → (b || a) ≡ true
legal_half m true a h = refl
legal_half true false a h = h
legal_half false false a h = h

first_says : (s : LegalTexts) → solid s ≡ true → (t : List ℕ) → 1 ≤ length t → (blank t || allows s t) ≡ true → blank t ≡ eqb (get_or t 0 0) 32
unfolding every
first_says s k [] l h = absurd (omega arith)
first_says s k (b ∷ t) l h =
    ⊎_elim
    (λ e. e ∙ sym (eq-eqb b 32 (only_blank b (and_first _ _ e))))
    (λ a. let f = filled_first s k b t a in by (between 32 32 b) refl f ∙ sym f)
    (either_half (blank (b ∷ t)) _ h)
  where
    by : (x : Bool) → between 32 32 b ≡ x → eqb b 32 ≡ false → (between 32 32 b && every (between 32 32) t) ≡ false
    by true e f = absurd (true≢false (sym (eq-eqb b 32 (only_blank b e)) ∙ f))
    by false e f = rw e

-- a byte that can be printed is a blank or a character
pub not_blank_byte : (b : ℕ) → 32 ≤ b → b ≤ 126 → between 33 126 b ≡ not (eqb b 32)
not_blank_byte b l h = by (eqb b 32) refl
  where
    by : (x : Bool) → eqb b 32 ≡ x → between 33 126 b ≡ not x
    by true e = rw (eqb-true b 32 e)
    by false e = let f = eqb-false b 32 e in rw (le-leb 33 b (omega (arith, f)), le-leb b 126 h)

pub says_filled : (s : LegalTexts) → solid s ≡ true → (t : List ℕ) → 1 ≤ length t → (blank t || allows s t) ≡ true → 32 ≤ get_or t 0 0 → get_or t 0 0 ≤ 126 → not (blank t) ≡ between 33 126 (get_or t 0 0)
says_filled s k t n h low high = ap not (first_says s k t n h) ∙ sym (not_blank_byte (get_or t 0 0) low high)
