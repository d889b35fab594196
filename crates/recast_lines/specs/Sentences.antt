-- The lines that the recast report alone has, in words, and what it says of a record. Assumes nothing.
use Rattle.std.specs.Prelude.{ℕ, Bool, List, [], ◌∷◌, ◌++◌, Ok, Err, is_err}
use Rattle.text.specs.Bytes.{bytes_of}
use Rattle.layout.specs.declared.Edition.{Edition}
use Rattle.layout.specs.Editions.{edition_number, last_element, longest_record}
use Rattle.element_sets.specs.declared.ElementSet.{ElementSet}
use Rattle.element_sets.specs.ElementSets.{passing, count_of, has_element}
use Rattle.recasting.specs.Recast.{Outcome, recast_of, outcome_in}
use Rattle.wording.specs.Wording.{decimal, numbered, line_end}
use Rattle.report_lines.specs.Sentences.{refused_line}

-- the first line of a report
unfoldable pub heading : Edition → List ℕ
heading edition = numbered (bytes_of "recast to ") (edition_number edition) ++ line_end

-- the whole report where the first line asks for no edition that is held
unfoldable pub not_held : List ℕ
not_held = bytes_of "recast refused 8\n"

-- numbers, with a blank before each
unfoldable pub numbers : List ℕ → List ℕ
numbers [] = []
numbers (n ∷ ns) = numbered (bytes_of " ") n ++ numbers ns

-- the elements that are lost, rising
abbrev pub lost : ElementSet → List ℕ
lost l = numbers (passing (has_element l) 1 last_element)

-- the line of a record that is recast: its count, then 'ok', how many elements are lost and which
unfoldable pub line_of : ℕ → ElementSet → List ℕ
line_of n l = decimal n ++ numbered (bytes_of " ok ") (count_of l) ++ lost l ++ line_end

-- the line of a record by its outcome; of a refused one its count, 'refused', number and place
abbrev pub recast_line : ℕ → Outcome → List ℕ
recast_line n (Ok l) = line_of n l
recast_line n (Err r) = refused_line n r

-- the outcome of a record, with room for any; and what is said of it, and whether it is refused
abbrev pub outcome_for : Edition → List ℕ → Outcome
outcome_for edition line = outcome_in longest_record (recast_of line (edition_number edition))

abbrev pub recast_said : Edition → ℕ → List ℕ → List ℕ
recast_said edition n line = recast_line n (outcome_for edition line)

abbrev pub recast_refused : Edition → List ℕ → Bool
recast_refused edition line = is_err (outcome_for edition line)
