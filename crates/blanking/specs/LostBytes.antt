-- What a recast loses, byte by byte, as the code goes over a row: which byte of which elements is lost between two editions. The bytes are the code's own: that
-- they are those of the elements whose meaning is lost is proved in proofs/Table.antt. Assumes nothing.
use Rattle.std.specs.Prelude.{ℕ, suc, ◌+◌, Bool, true, false, cond, not, ◌&&◌, ◌||◌, List, [], ◌∷◌, leb, ltb}
use Rattle.std.specs.Bool.{beq}
use Rattle.text.specs.Bytes.{between}
use Rattle.numerals.specs.Numerals.{spell, in_blanks}
use Rattle.layout.specs.declared.Edition.{Edition}
use Rattle.layout.specs.declared.Edition.TheVariants.{One, Three, Four}
use Rattle.layout.specs.Page.{width_of, start_of, text_of, first_byte}
use Rattle.places.specs.Column12.{is_first, crosses}
use Rattle.meanings.specs.Kept.{lost_at}

-- the text of element e where what is lost is blank and nothing else has changed
unfoldable pub blanked_text : Edition → Edition → List ℕ → ℕ → List ℕ
blanked_text from to xs e = cond (lost_at from to xs e) (spell (width_of e) in_blanks) (text_of e xs)

-- one of two editions is 4 and the other not; a record leaves edition 4
abbrev pub is_fourth : Edition → Bool
is_fourth One = false
is_fourth Three = false
is_fourth Four = true

abbrev pub changes : Edition → Edition → Bool
changes from to = not (beq (is_fourth from) (is_fourth to))

abbrev pub leaves : Edition → Edition → Bool
leaves from to = is_fourth from && not (is_fourth to)

-- where a byte stands: what is asked of it is whether it is in one of the elements from one to another. An element says that, and so does a column, counted from 0
abbrev pub Spot : Type 0
Spot = ℕ → ℕ → Bool

abbrev pub in_element : ℕ → Spot
in_element e first last = leb first e && leb e last

abbrev pub in_column : ℕ → Spot
in_column c first last = leb (start_of first) c && ltb c (start_of (last + 1))

-- it is one from lo to hi of the elements from first to last
abbrev pub some : ℕ → ℕ → ℕ → ℕ → Spot → ℕ → Bool
some first last lo hi at b = at first last && between lo hi b

-- what each step loses where it is taken. Element 40: codes 1 and 4; element 41: codes 4 and 7 to 9
unfoldable pub codes_lost : Bool → Spot → ℕ → Bool
codes_lost changed at b = changed && (((some 40 40 49 49 at b || some 40 40 52 52 at b) || some 41 41 52 52 at b) || some 41 41 55 57 at b)

-- the country, which is anything but blank
unfoldable pub country_lost : Bool → Spot → ℕ → Bool
country_lost crossing at b = crossing && some 43 43 33 126 at b

-- FM code versions 9 and A
unfoldable pub version_lost : Bool → Spot → ℕ → Bool
version_lost back at b = back && (some 64 64 57 57 at b || some 64 64 65 65 at b)

-- flags 6 and 7 of the twenty that every edition has, eight at a time
unfoldable pub flags_lost : Bool → Spot → ℕ → Bool
flags_lost back at b = back && ((some 66 73 54 55 at b || some 74 81 54 55 at b) || some 78 85 54 55 at b)

-- of the elements that edition 1 does not have: all that is written, in edition 1, and otherwise standard 6, and flags 6 and 7 of eight
unfoldable pub later_lost : Bool → Bool → Spot → ℕ → Bool
later_lost first back at b = cond first (some 86 93 33 126 at b || some 94 101 33 126 at b) (back && (some 86 86 54 54 at b || some 94 101 54 55 at b))

-- the byte b is lost: in the elements that every edition has, and in all
unfoldable pub shared_lost : Edition → Edition → Spot → ℕ → Bool
shared_lost from to at b = ((codes_lost (changes from to) at b || country_lost (crosses from to) at b) || version_lost (leaves from to) at b) || flags_lost (leaves from to) at b

unfoldable pub lost_in : Edition → Edition → Spot → ℕ → Bool
lost_in from to at b = shared_lost from to at b || later_lost (is_first to) (leaves from to) at b

-- a row with a blank in the place of each byte that is lost, by a test of its column, counted from c on
unfoldable pub blanked_from : (ℕ → ℕ → Bool) → ℕ → List ℕ → List ℕ
blanked_from lost c [] = []
blanked_from lost c (b ∷ xs) = cond (lost c b) 32 b ∷ blanked_from lost (suc c) xs

abbrev pub blanked_by : (ℕ → ℕ → Bool) → List ℕ → List ℕ
blanked_by lost xs = blanked_from lost 0 xs

abbrev pub blanked : (Spot → ℕ → Bool) → List ℕ → List ℕ
blanked lost xs = blanked_by (λ c. lost (in_column c)) xs

-- column c is one of the n from i on, and the byte b there is one from lo to hi
abbrev pub run : ℕ → ℕ → ℕ → ℕ → ℕ → ℕ → Bool
run i n lo hi c b = (leb i c && ltb c (i + n)) && between lo hi b

-- element e is lost, as the first byte of its columns says
abbrev pub named : (Spot → ℕ → Bool) → List ℕ → ℕ → Bool
named lost xs e = lost (in_element e) (first_byte e xs)
