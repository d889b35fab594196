-- What the functions that put a text say of the lent buffer, and of the sheet that holds it. Assumes nothing.
use Rattle.std.specs.Prelude.{ℕ, ◌+◌, ◌≤◌, ◌≡◌, List, length}
use Rattle.numerals.specs.Numerals.{placed}
use Rattle.wording.specs.declared.sheet.Sheet.{Sheet}

-- a text is put: it stands from `at` on, whatever else the buffer held is as it was before, and `end` is the place after the text
pub record Puts (text : List ℕ) (at : ℕ) (before after : List ℕ) (end : ℕ) : Type 0 where
  pub stands : after ≡ placed at text before
  pub ends : end ≡ at + length text

-- a sheet has room for n bytes more
abbrev pub HasRoom : ℕ → Sheet → Type 0
HasRoom n s = s.end + n ≤ length s.out.now

-- a text of at most so many bytes is put on a sheet, right after what is written: the buffer is still the one that was lent, and the sheet ends after the text
pub record Adds (text : List ℕ) (most : ℕ) (before after : Sheet) : Type 0 where
  pub same_buffer : after.out.ghost_name ≡ before.out.ghost_name
  pub same_length : length after.out.now ≡ length before.out.now
  pub puts : Puts text before.end before.out.now after.out.now after.end
  pub upper_bound : after.end ≤ before.end + most
