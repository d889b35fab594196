-- Which texts an edition keeps of another, and which are lost. Assumes nothing.
use Rattle.std.specs.Prelude.{ℕ, Bool, not, ◌&&◌, ◌||◌, List, eqb}
use Rattle.text.specs.LegalTexts.{allows}
use Rattle.layout.specs.declared.Edition.{Edition}
use Rattle.layout.specs.Page.{text_of, legal_texts}
use Rattle.ties.specs.Ties.{there}
use Rattle.meanings.specs.Meaning.{sense_of, same_sense}

-- a text of element e is legal in the target and has the same sense there; column 12 and column 111 have rules of their own
unfoldable pub keeps : Edition → Edition → ℕ → List ℕ → Bool
keeps from to e t = eqb e 6 || (eqb e 65 || (allows (legal_texts to e) t && same_sense (sense_of from e t) (sense_of to e t)))

-- only a filled element can be lost
unfoldable pub lost_text : Edition → Edition → ℕ → List ℕ → Bool
lost_text from to e t = there t && not (keeps from to e t)

abbrev pub lost_at : Edition → Edition → List ℕ → ℕ → Bool
lost_at from to xs e = lost_text from to e (text_of e xs)
