-- What each column may hold, and with which neighbour, worked out from the page. It is the code's way to look at a record: what makes a record accepted is
-- stated over the page and the ties. Assumes nothing.
use Rattle.std.specs.Prelude.{ℕ, suc, ◌+◌, ◌-◌, ◌<◌, ◌≤◌, ◌≡◌, List, [], ◌∷◌, ◌++◌, map, Bool, true, cond, not, ◌&&◌, ◌||◌, eqb, leb, get_or, take, drop, replicate}
use Rattle.std.specs.Bool.{beq}
use Rattle.text.specs.Bytes.{either}
use Rattle.text.specs.declared.LegalTexts.{LegalTexts}
use Rattle.text.specs.declared.LegalTexts.TheVariants.{Nothing, Printable, Letters, CallSign, DigitOr, Within, Either, OneOf}
use Rattle.layout.specs.declared.Edition.{Edition}
use Rattle.columns.specs.declared.Table.{Table}
use Rattle.layout.specs.Editions.{length_of}
use Rattle.layout.specs.Page.{Element, page, legal_texts_in}

-- a blank, or a byte of one of two runs
unfoldable pub allowed : ℕ → ℕ → ℕ → ℕ → ℕ → Bool
allowed low high also to b = eqb b 32 || either low high also to b

-- two neighbours are both blank or both filled; where the bond is '>' (62) a blank may follow what is filled, and below '=' (61) the next is free
unfoldable pub joined : ℕ → ℕ → ℕ → Bool
joined bond b next = beq (not (eqb b 32)) (not (eqb next 32)) || (not (eqb bond 61) && (leb bond 60 || not (eqb b 32)))

-- the runs of bytes of a column
pub record Cell : Type 0 where
  pub low : ℕ
  pub high : ℕ
  pub also : ℕ
  pub to : ℕ

abbrev pub cell : ℕ → ℕ → ℕ → ℕ → Cell
cell l h a t = record { low = l; high = h; also = a; to = t }

-- a column of an element as wide as w with these texts: in one column its own digits, or the runs that they lie in; in more any digit
unfoldable pub cell_of : ℕ → LegalTexts → Cell
cell_of w Nothing = cell 32 32 32 32
cell_of w Printable = cell 32 126 32 126
cell_of w Letters = cell 65 90 65 90
cell_of w CallSign = cell 48 57 65 90
cell_of w (DigitOr x) = cell 48 57 x x
cell_of w (Within a b) = cond (eqb w 1) (cell (48 + a) (48 + b) (48 + a) (48 + b)) (cell 48 57 48 57)
cell_of w (Either a b c d) = cond (eqb w 1) (cell (48 + a) (48 + b) (48 + c) (48 + d)) (cell 48 57 48 57)
cell_of w (OneOf a b c d) = cond (eqb w 1) (cell (48 + a) (48 + b) (48 + c) (48 + d)) (cell 48 57 48 57)

-- the bonds inside an element: its columns are blank or filled together; a call sign may end after its third
unfoldable pub inside : ℕ → LegalTexts → List ℕ
inside w CallSign = 61 ∷ 61 ∷ 62 ∷ 62 ∷ 62 ∷ 62 ∷ []
inside w Nothing = replicate (w - 1) 61
inside w Printable = replicate (w - 1) 61
inside w Letters = replicate (w - 1) 61
inside w (DigitOr x) = replicate (w - 1) 61
inside w (Within a b) = replicate (w - 1) 61
inside w (Either a b c d) = replicate (w - 1) 61
inside w (OneOf a b c d) = replicate (w - 1) 61

-- the bond of an element with the next: those of a place (6 to 8) go together, and so do a sign and its temperature; iw (14) may stand alone, ff not
unfoldable pub after : ℕ → ℕ
after e = cond (eqb e 6 || eqb e 7 || eqb e 16 || eqb e 18 || eqb e 28 || eqb e 50) 61 (cond (eqb e 14) 62 46)

-- the columns of some elements one after the other, and their bonds, the first of them element e
unfoldable pub cells_from : Edition → List Element → List Cell
cells_from ed [] = []
cells_from ed (x ∷ xs) = replicate x.width (cell_of x.width (legal_texts_in ed x)) ++ cells_from ed xs

unfoldable pub bonds_from : ℕ → List Element → List ℕ
bonds_from e [] = []
bonds_from e (x ∷ xs) = (inside x.width x.in4 ++ (after e ∷ [])) ++ bonds_from (suc e) xs

unfoldable pub cells : Edition → List Cell
cells ed = cells_from ed page

unfoldable pub bonds : List ℕ
bonds = bonds_from 1 page

unfoldable pub cell_at : Edition → ℕ → Cell
cell_at ed k = get_or (cells ed) k (cell 0 0 0 0)

unfoldable pub bond_at : ℕ → ℕ
bond_at k = get_or bonds k 0

abbrev pub fits : Cell → ℕ → Bool
fits c b = allowed c.low c.high c.also c.to b

-- column k, counted from 0, holds what it may, and goes with the next
pub record Column (ed : Edition) (xs : List ℕ) (k : ℕ) : Type 0 where
  pub held : fits (cell_at ed k) (get_or xs k 0) ≡ true
  pub bound : joined (bond_at k) (get_or xs k 0) (get_or xs (k + 1) 0) ≡ true

-- the columns from `from` on, up to `to`
abbrev pub Range : Edition → List ℕ → ℕ → ℕ → Type 0
Range ed xs from to = (k : ℕ) → from ≤ k → k < to → Column ed xs k

-- the five rows are those of the edition's sixteen columns from `at` on
abbrev pub cut : ℕ → List ℕ → List ℕ
cut at t = take 16 (drop at t)

abbrev pub rows : Edition → ℕ → List (List ℕ)
rows ed at =
    cut at (map (λ c. c.low) (cells ed)) ∷
    cut at (map (λ c. c.high) (cells ed)) ∷
    cut at (map (λ c. c.also) (cells ed)) ∷
    cut at (map (λ c. c.to) (cells ed)) ∷
    cut at bonds ∷
    []

abbrev pub Rows : Edition → ℕ → Table → Type 0
Rows ed at t = (t.low ∷ t.high ∷ t.also ∷ t.to ∷ t.bond ∷ []) ≡ rows ed at

-- the columns that all editions have alike, those that an edition has of its own, and all of them
abbrev pub Shared : List ℕ → Type 0
Shared xs = (ed : Edition) → Range ed xs 16 64 × Range ed xs 80 96

abbrev pub Own : Edition → List ℕ → Type 0
Own ed xs = Range ed xs 0 16 × (Range ed xs 64 80 × (Range ed xs 96 112 × Range ed xs 112 (length_of ed)))

abbrev pub Columns : Edition → List ℕ → Type 0
Columns ed xs = (k : ℕ) → k < length_of ed → Column ed xs k
