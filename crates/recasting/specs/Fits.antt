-- What an outcome and the lent buffer afterwards must be to fit a record, an edition number and the buffer before: refusals 1 to 9 in this order, and the
-- recast record said element by element, with no word of how it is made. Assumes nothing.
use Rattle.std.specs.Prelude.{ℕ, ◌+◌, ◌<◌, ◌≤◌, ◌≡◌, ◌⊎◌, ◌↔◌, Bool, true, false, List, [], ◌∷◌, eqb, length, Err, None, Some}
use Rattle.text.specs.Bytes.{blank, number}
use Rattle.element_sets.specs.ElementSets.{set_of}
use Rattle.element_sets.specs.declared.ElementSet.{ElementSet}
use Rattle.layout.specs.declared.Edition.{Edition}
use Rattle.refusals.specs.declared.Refusal.{Refusal}
use Rattle.refusals.specs.declared.Refusal.TheVariants.{Unheld, Room}
use Rattle.layout.specs.Editions.{asked, length_of, last_of, last_element}
use Rattle.refusals.specs.Lent.{overwritten}
use Rattle.layout.specs.Page.{text_of}
use Rattle.checking.specs.Acceptable.{Acceptable}
use Rattle.checking.specs.Acceptable as Checking
use Rattle.places.specs.Column12.{suits, crosses}
use Rattle.recasting.specs.Recast.{Outcome, digit_of, done, unrecast}
use Rattle.meanings.specs.Lost.{Expressible, Lost}

-- digit d of the target gives the record's place and keeps tie 2, and no lower one does
abbrev pub suits_place : Edition → Edition → List ℕ → ℕ → Bool
suits_place from to xs d = suits from to (number (text_of 6 xs)) (number (text_of 7 xs)) (number (text_of 8 xs)) d

pub record Lowest (from to : Edition) (xs : List ℕ) (d : ℕ) : Type 0 where
  pub small : d ≤ 9
  pub suited : suits_place from to xs d ≡ true
  pub lower : (c : ℕ) → c < d → suits_place from to xs c ≡ false

-- column 12 stays, or it is the lowest such digit
pub data Column12 (from to : Edition) (xs ys : List ℕ) : Type 0 where
  stays : (crosses from to ≡ false) ⊎ (blank (text_of 6 xs) ≡ true) → text_of 6 ys ≡ text_of 6 xs → Column12 from to xs ys
  moves : crosses from to ≡ true → blank (text_of 6 xs) ≡ false → (d : ℕ) → Lowest from to xs d → text_of 6 ys ≡ (48 + d) ∷ [] → Column12 from to xs ys

-- ys is the recast of xs: column 12, column 111, and of every other element the characters, where a legal text of the target has its meaning, or blanks
pub record Recasts (from to : Edition) (xs ys : List ℕ) : Type 0 where
  pub full : length ys ≡ length_of to
  pub column12 : Column12 from to xs ys
  pub version : text_of 65 ys ≡ digit_of to ∷ []
  pub kept : (e : ℕ) → 1 ≤ e → e ≤ last_of to → eqb e 6 ≡ false → eqb e 65 ≡ false → blank (text_of e xs) ≡ false → Expressible from to xs e → text_of e ys ≡ text_of e xs
  pub lost : (e : ℕ) → 1 ≤ e → e ≤ last_of to → eqb e 6 ≡ false → eqb e 65 ≡ false → Lost from to xs e → blank (text_of e ys) ≡ true
  pub missing : (e : ℕ) → 1 ≤ e → e ≤ last_of to → eqb e 6 ≡ false → eqb e 65 ≡ false → blank (text_of e xs) ≡ true → blank (text_of e ys) ≡ true

-- the losses are those elements that are lost, and no others; column 111 is never one
pub record Names (from to : Edition) (xs : List ℕ) (losses : ElementSet) : Type 0 where
  pub test : ℕ → Bool
  pub words : losses ≡ set_of test
  pub version : test 65 ≡ false
  pub exactly : (e : ℕ) → 1 ≤ e → e ≤ last_element → eqb e 65 ≡ false → (test e ≡ true) ↔ Lost from to xs e

pub data Fits (xs : List ℕ) (edition : ℕ) (before : List ℕ) : Outcome → List ℕ → Type 0 where
  refused : (r : Refusal) → Checking.Fits xs (Err r) → Fits xs edition before (unrecast r) before
  unheld : (from : Edition) → Acceptable from xs → asked edition ≡ None → Fits xs edition before (unrecast Unheld) before
  cramped : (from to : Edition) → Acceptable from xs → asked edition ≡ Some to → length before < length_of to → Fits xs edition before (unrecast Room) before
  recast : (from to : Edition) → Acceptable from xs → asked edition ≡ Some to → length_of to ≤ length before → (ys : List ℕ) → Recasts from to xs ys → (losses : ElementSet) → Names from to xs losses →
      Fits xs edition before (done losses) (overwritten ys before)
