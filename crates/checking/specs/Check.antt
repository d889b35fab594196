-- What checking a record answers: document 01's rules 1 to 7 in the table's order, the first that fails with its place; and the call sign that is shown.
-- Assumes nothing.
use Rattle.std.specs.Prelude.{ℕ, List, [], ◌∷◌, Bool, ◌||◌, eqb, length, get_or, Option, Some, None, Result, Ok, Err}
use Rattle.text.specs.Bytes.{between, printable, to_last_non_blank}
use Rattle.text.specs.First.{first_of}
use Rattle.layout.specs.declared.Edition.{Edition}
use Rattle.refusals.specs.declared.Refusal.{Refusal}
use Rattle.refusals.specs.declared.Refusal.TheVariants.{Length, Unprintable, Format, Version, EditionLength, Illegal, Broken}
use Rattle.layout.specs.Editions.{edition_of, length_of, last_of}
use Rattle.layout.specs.Page.{legal, text_of}
use Rattle.refusals.specs.Verdicts.{Verdict, unless, refused_at}
use Rattle.ties.specs.Ties.{first_broken}

-- the edition of a record that is accepted, or why it is refused
abbrev pub Answer : Type 0
Answer = Result Edition Refusal

-- the byte in column c: columns count from 1, and where a record has none there is a blank
unfoldable pub column : ℕ → List ℕ → ℕ
column c xs = get_or (32 ∷ xs) c 32

-- 1. the length is 131 or 159
abbrev pub known_length : ℕ → Bool
known_length n = eqb n 131 || eqb n 159

-- 2. the byte in column c is one of 32..126
abbrev pub printable_at : List ℕ → ℕ → Bool
printable_at xs c = printable (column c xs)

-- 3. column 1 is '3', '4' or '5'
abbrev pub known_format : ℕ → Bool
known_format b = between 51 53 b

-- 4. column 111 names an edition
abbrev pub named : List ℕ → Option Edition
named xs = edition_of (column 111 xs)

-- 5. the length is that edition's; 6. each element is blank or legal; 7. each tie holds
unfoldable pub checked_in : Option Edition → List ℕ → Answer
checked_in None xs = Err Version
checked_in (Some ed) xs =
    unless Err (eqb (length xs) (length_of ed)) EditionLength
    (refused_at Err Illegal (first_of (last_of ed) (legal ed xs))
    (refused_at Err Broken (first_broken ed xs)
    (Ok ed)))

unfoldable pub checked : List ℕ → Answer
checked xs =
    unless Err (known_length (length xs)) Length
    (refused_at Err Unprintable (first_of (length xs) (printable_at xs))
    (unless Err (known_format (column 1 xs)) Format
    (checked_in (named xs) xs)))

-- what an answer says by its verdict: fine where the record is accepted
abbrev pub answer_verdict : Answer → Verdict
answer_verdict (Ok ed) = Ok tt
answer_verdict (Err r) = Err r

-- the call sign: element 42, from column 72 to its last non-blank; empty if missing or if the record is refused
unfoldable pub call_sign_of : Answer → List ℕ → List ℕ
call_sign_of (Ok ed) xs = to_last_non_blank (text_of 42 xs)
call_sign_of (Err r) xs = []
