-- What a function that says something of a record promises: the text on the sheet, of how many bytes at most, and that it answers whether the record is refused. Assumes nothing.
use Rattle.std.specs.Prelude.{ℕ, ◌≡◌, Bool, List}
use Rattle.wording.specs.declared.sheet.Sheet.{Sheet}
use Rattle.wording.specs.Puts.{Adds}

-- the most bytes of a line that reports share, and the most that any report says of a record: a line for each of 101 elements, and three more
abbrev pub line_most : ℕ
line_most = 112

abbrev pub record_most : ℕ
record_most = 12288

pub record Says (text : List ℕ) (refused : Bool) (before after : Sheet) (r : Bool) : Type 0 where
  pub adds : Adds text record_most before after
  pub refuses : r ≡ refused
