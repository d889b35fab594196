-- What a legal text of an element holds, where its legal texts are digits: it is blank, or it says a number that passes a test. Assumes nothing.
use mathlib.Core.Path.{◌≡◌, refl, sym, ◌∙◌}
use mathlib.Core.Bool.{Bool, true, false, ◌&&◌, ◌||◌, true≢false}
use mathlib.Core.List.{List}
use Prim.Native.Nat.{ℕ, ◌≤◌}
use Rattle.text.specs.Bytes.{between, blank, digits, number}
use Rattle.text.specs.declared.LegalTexts.TheVariants.{Within}
use Rattle.text.specs.LegalTexts.{allows}
use Rattle.text.proofs.Ranges.{greatest}
use Rattle.text.proofs.Ways.{and_first, and_second}
use Rattle.layout.specs.declared.Edition.{Edition}
use Rattle.layout.specs.Page.{text_of, legal_texts, may_be_blank, legal}

-- a text that is blank, or digits whose number passes the test p
pub data Holds (p : ℕ → Bool) (t : List ℕ) : Type 0 where
  empty : blank t ≡ true → Holds p t
  holds : blank t ≡ false → digits t ≡ true → p (number t) ≡ true → Holds p t

-- the text of an element whose legal texts are such digits
pub in_digits_lem : (p : ℕ → Bool) (ed : Edition) (xs : List ℕ) (e : ℕ) → allows (legal_texts ed e) (text_of e xs) ≡ (digits (text_of e xs) && p (number (text_of e xs))) →
    legal ed xs e ≡ true → Holds p (text_of e xs)
unfolding legal
in_digits_lem p ed xs e f h = by (may_be_blank e) (blank (text_of e xs)) refl h
  where
    allowed : blank (text_of e xs) ≡ false → allows (legal_texts ed e) (text_of e xs) ≡ true → Holds p (text_of e xs)
    allowed b g = let k = sym f ∙ g in holds b (and_first _ _ k) (and_second (digits (text_of e xs)) _ k)

    by : (x y : Bool) → blank (text_of e xs) ≡ y → ((x && y) || allows (legal_texts ed e) (text_of e xs)) ≡ true → Holds p (text_of e xs)
    by x true b g = empty b
    by true false b g = allowed b g
    by false false b g = allowed b g

-- and where they are those from a to b
pub within : (ed : Edition) (xs : List ℕ) (a b e : ℕ) → legal_texts ed e ≡ Within a b → legal ed xs e ≡ true → Holds (between a b) (text_of e xs)
unfolding allows
within ed xs a b e f h = in_digits_lem (between a b) ed xs e (rw f) h

-- what is there is at most b
pub at_most : (ed : Edition) (xs : List ℕ) (a b e : ℕ) → legal_texts ed e ≡ Within a b → legal ed xs e ≡ true → blank (text_of e xs) ≡ false → number (text_of e xs) ≤ b
at_most ed xs a b e f h k = by (within ed xs a b e f h)
  where
    by : Holds (between a b) (text_of e xs) → number (text_of e xs) ≤ b
    by (empty n) = absurd (true≢false (sym n ∙ k))
    by (holds n d p) = greatest a b (number (text_of e xs)) p
