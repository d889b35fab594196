-- The lines that more than one report has, in words. Assumes nothing.
use Rattle.std.specs.Prelude.{ℕ, List, [], ◌∷◌, ◌++◌}
use Rattle.text.specs.Bytes.{bytes_of}
use Rattle.layout.specs.declared.Edition.{Edition}
use Rattle.refusals.specs.declared.Refusal.{Refusal}
use Rattle.layout.specs.Editions.{edition_number}
use Rattle.refusals.specs.Refusals.{number_of, where_of}
use Rattle.wording.specs.Wording.{decimal, numbered, line_end}

-- the line of a refused record: its count, 'refused', the number of the refusal and its place
unfoldable pub refused_line : ℕ → Refusal → List ℕ
refused_line n r = decimal n ++ numbered (bytes_of " refused ") (number_of r) ++ numbered (bytes_of " ") (where_of r) ++ line_end

-- the line of an accepted record: its count, 'ok' and its edition
unfoldable pub accepted_line : ℕ → Edition → List ℕ
accepted_line n edition = decimal n ++ numbered (bytes_of " ok edition ") (edition_number edition) ++ line_end

-- the line of its call sign, where it has one
unfoldable pub call_sign_line : ℕ → List ℕ → List ℕ
call_sign_line n [] = []
call_sign_line n (b ∷ sign) = decimal n ++ bytes_of " call sign " ++ (b ∷ sign) ++ line_end

-- the last line, which counts all records and the refused
unfoldable pub totals : ℕ → ℕ → List ℕ
totals n m = numbered (bytes_of "records ") n ++ numbered (bytes_of " refused ") m ++ line_end
