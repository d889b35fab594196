-- Document 01's table of refusals: the number and the place of each. Assumes nothing.
use Rattle.std.specs.Prelude.{ℕ}
use Rattle.refusals.specs.declared.Refusal.{Refusal}
use Rattle.refusals.specs.declared.Refusal.TheVariants.{Length, Unprintable, Format, Version, EditionLength, Illegal, Broken, Unheld, Room}

-- a row of the table
pub record Row : Type 0 where
  pub number : ℕ
  pub place : ℕ

abbrev pub row : ℕ → ℕ → Row
row n p = record { number = n; place = p }

abbrev pub row_of : Refusal → Row
row_of Length = row 1 0
row_of (Unprintable column) = row 2 column
row_of Format = row 3 1
row_of Version = row 4 111
row_of EditionLength = row 5 0
row_of (Illegal element) = row 6 element
row_of (Broken tie) = row 7 tie
row_of Unheld = row 8 0
row_of Room = row 9 0

abbrev pub number_of : Refusal → ℕ
number_of r = (row_of r).number

abbrev pub where_of : Refusal → ℕ
where_of r = (row_of r).place
