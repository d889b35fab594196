-- A record of an edition, said with no order of the rules: it has the edition's columns, codes and ties. And what an answer must say to fit a record.
-- Assumes nothing.
use Rattle.std.specs.Prelude.{ℕ, ◌≤◌, ◌≡◌, true, List, length, Some, Ok, Err}
use Rattle.layout.specs.declared.Edition.{Edition}
use Rattle.layout.specs.Editions.{edition_of, length_of, last_of}
use Rattle.layout.specs.Page.{legal}
use Rattle.ties.specs.Ties.{tie}
use Rattle.refusals.specs.Refusals.{number_of, where_of}
use Rattle.checking.specs.Check.{Answer, column, printable_at, known_format}
use Rattle.checking.specs.Rules.{FirstFailure}

pub record Acceptable (ed : Edition) (xs : List ℕ) : Type 0 where
  -- column 111 names the edition
  pub names : edition_of (column 111 xs) ≡ Some ed
  -- the length is the edition's
  pub full : length xs ≡ length_of ed
  -- every column holds a printable character
  pub prints : (c : ℕ) → 1 ≤ c → c ≤ length xs → printable_at xs c ≡ true
  -- column 1 is 3, 4 or 5
  pub format : known_format (column 1 xs) ≡ true
  -- every element is blank, where it may be, or legal
  pub lawful : (e : ℕ) → 1 ≤ e → e ≤ last_of ed → legal ed xs e ≡ true
  -- every tie holds
  pub tied : (k : ℕ) → tie ed xs k ≡ true

-- an answer fits: the record is one of that edition, or that refusal's rule is the first to fail, at that place
unfoldable pub Fits : List ℕ → Answer → Type 0
Fits xs (Ok ed) = Acceptable ed xs
Fits xs (Err r) = FirstFailure xs (number_of r) (where_of r)
