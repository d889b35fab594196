-- What the program readings says of a record: what each element reads as, and whether writing the readings gives the record back. Assumes nothing.
use Rattle.std.specs.Prelude.{ℕ, ◌+◌, Bool, true, false, cond, ◌&&◌, List, [], ◌∷◌, ◌++◌, eqb, Ok, Err}
use Rattle.text.specs.Bytes.{bytes_of}
use Rattle.layout.specs.declared.Edition.{Edition}
use Rattle.layout.specs.Editions.{edition_number, longest_record}
use Rattle.checking.specs.Check.{Answer, answer_verdict, call_sign_of}
use Rattle.reading.specs.declared.Kind.{Kind}
use Rattle.reading.specs.declared.Kind.TheVariants.{Measured, Computed, IcedMeasured, IcedComputed}
use Rattle.reading.specs.declared.Reading.{Reading}
use Rattle.reading.specs.declared.Reading.TheVariants.{Missing, Code, Text, Amount, At}
use Rattle.reading.specs.Answers.{read_of}
use Rattle.refusals.specs.Lent.{Call, refusing, writing, Quiet, in_room}
use Rattle.writing.specs.Written.{written}
use Rattle.wording.specs.Wording.{decimal, signed_decimal, numbered, line_end}
use Rattle.refusals.specs.Verdicts.{is_refused}
use Rattle.report_lines.specs.Sentences.{refused_line, accepted_line, call_sign_line}

-- how an amount was come by
unfoldable pub kind_words : Kind → List ℕ
kind_words Measured = bytes_of " measured"
kind_words Computed = bytes_of " computed"
kind_words IcedMeasured = bytes_of " iced measured"
kind_words IcedComputed = bytes_of " iced computed"

-- the line of element e: the count of the record, as it is spelled, the element, and what it reads as; none where it is missing
abbrev pub element_of : List ℕ → ℕ → List ℕ
element_of count e = count ++ numbered (bytes_of " ") e

-- what an element reads as, in words; none where it is missing
unfoldable pub reading_words : Reading → List ℕ
reading_words Missing = []
reading_words (Code v) = numbered (bytes_of " code ") v
reading_words (Text v) = numbered (bytes_of " text ") v
reading_words (Amount a kind) = bytes_of " amount " ++ signed_decimal a ++ kind_words kind
reading_words (At place) = bytes_of " place " ++ signed_decimal place.latitude ++ numbered (bytes_of " ") place.longitude ++ numbered (bytes_of " ") place.digit

-- the line of an element: the record's count and the element before its words; no line where it is missing
unfoldable pub reading_line : List ℕ → ℕ → Reading → List ℕ
reading_line count e Missing = []
reading_line count e (Code v) = element_of count e ++ reading_words (Code v) ++ line_end
reading_line count e (Text v) = element_of count e ++ reading_words (Text v) ++ line_end
reading_line count e (Amount a kind) = element_of count e ++ reading_words (Amount a kind) ++ line_end
reading_line count e (At place) = element_of count e ++ reading_words (At place) ++ line_end

-- the lines of elements, from e on
unfoldable pub reading_lines : List ℕ → ℕ → List Reading → List ℕ
reading_lines count e [] = []
reading_lines count e (r ∷ rs) = reading_line count e r ++ reading_lines count (e + 1) rs

-- two texts are the same
unfoldable pub same_text : List ℕ → List ℕ → Bool
same_text [] [] = true
same_text [] (b ∷ ys) = false
same_text (a ∷ xs) [] = false
same_text (a ∷ xs) (b ∷ ys) = eqb a b && same_text xs ys

-- writing the readings, to the record's own edition and with room for any record, gives the record
unfoldable pub gives_back : Call Quiet → List ℕ → Bool
gives_back (writing q text) line = same_text text line
gives_back (refusing r) line = false

abbrev pub written_back : Edition → List Reading → List ℕ → Bool
written_back edition rs line = gives_back (in_room longest_record (written rs (edition_number edition))) line

unfoldable pub written_line : ℕ → Bool → List ℕ
written_line n same = decimal n ++ cond same (bytes_of " written same\n") (bytes_of " written other\n")

-- an accepted record: its edition, its readings, its call sign where it has one, and whether they give it back; a refused one: number and place
unfoldable pub read_text : ℕ → List ℕ → Answer → List Reading → List ℕ
read_text n line (Ok edition) rs =
    accepted_line n edition ++ reading_lines (decimal n) 1 rs ++ call_sign_line n (call_sign_of (Ok edition) line) ++ written_line n (written_back edition rs line)
read_text n line (Err r) rs = refused_line n r

-- what is said of a record with its count, from the one call that reads it, and whether it is refused
abbrev pub read_said : ℕ → List ℕ → List ℕ
read_said n line = read_text n line (read_of line).answer (read_of line).entries

abbrev pub read_refused : List ℕ → Bool
read_refused line = is_refused (answer_verdict (read_of line).answer)
