-- Demand 3's words, said over every text and with no word of how a record is recast. Assumes nothing.
use Rattle.std.specs.Prelude.{ℕ, ◌≤◌, ◌≡◌, true, List, length}
use Rattle.layout.specs.declared.Edition.{Edition}
use Rattle.layout.specs.Editions.{length_of, last_element}
use Rattle.layout.specs.Page.{text_of, legal}
use Rattle.ties.specs.Ties.{there}
use Rattle.reading.specs.Readings.{lead}
use Rattle.meanings.specs.Meaning.{meaning_of}

-- a legal text of the target has the meaning of element e: some text as long as the target's records has it, in the columns of e and of the elements that
-- share its reading
pub record Expressible (from to : Edition) (xs : List ℕ) (e : ℕ) : Type 0 where
  pub text : List ℕ
  pub full : length text ≡ length_of to
  pub lawful : (f : ℕ) → 1 ≤ f → f ≤ last_element → lead f ≡ lead e → legal to text f ≡ true
  pub means : meaning_of to text e ≡ meaning_of from xs e

-- an element is lost: it is filled, and no legal text of the target has its meaning
pub record Lost (from to : Edition) (xs : List ℕ) (e : ℕ) : Type 0 where
  pub filled : there (text_of e xs) ≡ true
  pub none : Expressible from to xs e → ⊥
