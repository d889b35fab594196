-- What writing a record from readings comes to: 8, 6, 7 in this order, or the record. Room, 9, is the last rule of every call with a lent buffer. Assumes nothing.
use Rattle.std.specs.Prelude.{ℕ, Bool, ◌&&◌, List, None, Option, Some}
use Rattle.text.specs.First.{first_of}
use Rattle.layout.specs.declared.Edition.{Edition}
use Rattle.refusals.specs.declared.Refusal.TheVariants.{Illegal, Broken, Unheld}
use Rattle.layout.specs.Editions.{asked, last_element}
use Rattle.layout.specs.Page.{legal}
use Rattle.refusals.specs.Verdicts.{refused_at}
use Rattle.refusals.specs.Lent.{Call, refusing, writing, Quiet, quiet}
use Rattle.ties.specs.Ties.{first_broken}
use Rattle.reading.specs.declared.Reading.{Reading}
use Rattle.reading.specs.Readings.{lead, reading_of}
use Rattle.spelling.specs.Same.{same}
use Rattle.spelling.specs.Spelled.{given, record_of}

-- element e of the text is legal and reads as the reading that is given for it
unfoldable pub writes : Edition → List Reading → List ℕ → ℕ → Bool
writes ed rs xs e = legal ed xs e && same (reading_of ed xs e) (given rs e)

-- 6: of elements that share a reading the lowest is named; 7: the lowest tie
unfoldable pub written_in : Edition → List Reading → Call Quiet
written_in ed rs =
    refused_at refusing (λ e. Illegal (lead e)) (first_of last_element (writes ed rs (record_of ed rs)))
    (refused_at refusing Broken (first_broken ed (record_of ed rs))
    (writing quiet (record_of ed rs)))

-- 8: the edition that is asked for
unfoldable pub written_as : Option Edition → List Reading → Call Quiet
written_as None rs = refusing Unheld
written_as (Some ed) rs = written_in ed rs

abbrev pub written : List Reading → ℕ → Call Quiet
written rs edition = written_as (asked edition) rs
