-- What recasting a record to another edition comes to: rules 1 to 8, or the record in that edition and the elements lost. Room, 9, is the last rule of every call
-- with a lent buffer. Assumes nothing.
use Rattle.std.specs.Prelude.{ℕ, ◌+◌, ◌-◌, cond, ◌&&◌, List, [], ◌∷◌, ◌++◌, eqb, length, get_or, Result, Ok, Err, None, Option, Some}
use Rattle.text.specs.Bytes.{number}
use Rattle.numerals.specs.Numerals.{spell, in_blanks}
use Rattle.element_sets.specs.ElementSets.{no_elements, set_of}
use Rattle.element_sets.specs.declared.ElementSet.{ElementSet}
use Rattle.layout.specs.declared.Edition.{Edition}
use Rattle.refusals.specs.declared.Refusal.{Refusal}
use Rattle.refusals.specs.declared.Refusal.TheVariants.{Unheld}
use Rattle.refusals.specs.Verdicts.{Verdict}
use Rattle.refusals.specs.Lent.{Call, refusing, writing, in_room}
use Rattle.layout.specs.Editions.{asked, edition_number, longest_record}
use Rattle.layout.specs.Page.{width_of, text_of}
use Rattle.layout.specs.Records.{record_from}
use Rattle.ties.specs.Ties.{there}
use Rattle.checking.specs.Check.{Answer}
use Rattle.checking.specs.Check.{checked}
use Rattle.places.specs.Column12.{lowest_digit, crosses}
use Rattle.meanings.specs.Kept.{lost_at}

-- column 12 in the target: between edition 1 and the others the lowest digit with the same place that also keeps tie 2 (`every_place`: there is one), else it stays; a blank
-- place stays blank
unfoldable pub hemisphere : Edition → Edition → List ℕ → ℕ
hemisphere from to xs =
    cond (crosses from to && there (text_of 6 xs))
    (lowest_digit from to (number (text_of 6 xs)) (number (text_of 7 xs)) (number (text_of 8 xs)))
    (get_or (text_of 6 xs) 0 32)

-- column 111: the character that names the target
abbrev pub digit_of : Edition → ℕ
digit_of edition = 48 + edition_number edition

-- the record with blanks in the columns that it does not have
abbrev pub blanks : ℕ → List ℕ
blanks n = spell n in_blanks

unfoldable pub widened : List ℕ → List ℕ
widened xs = xs ++ blanks (longest_record - length xs)

-- the text of element e in the target: an element that is kept keeps its characters, one that is lost is blank
unfoldable pub recast_text : Edition → Edition → List ℕ → ℕ → List ℕ
recast_text from to xs e =
    cond (eqb e 6) (hemisphere from to xs ∷ [])
    (cond (eqb e 65) (digit_of to ∷ [])
    (cond (lost_at from to xs e) (blanks (width_of e)) (text_of e (widened xs))))

unfoldable pub recast_record : Edition → Edition → List ℕ → List ℕ
recast_record from to xs = record_from to (recast_text from to xs)

-- 8: the edition that is asked for
unfoldable pub recast_to : Edition → Option Edition → List ℕ → Call ElementSet
recast_to from None xs = refusing Unheld
recast_to from (Some to) xs = writing (set_of (lost_at from to xs)) (recast_record from to xs)

-- 1 to 7: as check answers
unfoldable pub recast_after : Answer → List ℕ → ℕ → Call ElementSet
recast_after (Err r) xs edition = refusing r
recast_after (Ok from) xs edition = recast_to from (asked edition) xs

abbrev pub recast_of : List ℕ → ℕ → Call ElementSet
recast_of xs edition = recast_after (checked xs) xs edition

-- the elements lost: a refusal has an empty loss set
abbrev pub losses_in : Call ElementSet → ElementSet
losses_in (refusing r) = no_elements
losses_in (writing losses bytes) = losses

-- what is answered: the elements lost, or why it is refused
abbrev pub Outcome : Type 0
Outcome = Result ElementSet Refusal

abbrev pub outcome_of : Call ElementSet → Outcome
outcome_of (refusing r) = Err r
outcome_of (writing losses bytes) = Ok losses

abbrev pub outcome_in : ℕ → Call ElementSet → Outcome
outcome_in room call = outcome_of (in_room room call)

-- what an outcome says: its verdict, and the elements lost
abbrev pub verdict_said : Outcome → Verdict
verdict_said (Ok losses) = Ok tt
verdict_said (Err r) = Err r

abbrev pub losses_said : Outcome → ElementSet
losses_said (Ok losses) = losses
losses_said (Err r) = no_elements

-- the outcome of a record that is recast, and of one that is refused
abbrev pub done : ElementSet → Outcome
done losses = Ok losses

abbrev pub unrecast : Refusal → Outcome
unrecast r = Err r
