-- The columns of an element that a loop or a tie takes out of a record. Assumes nothing.
use mathlib.Core.Path.{◌≡◌, ap, ◌∙◌}
use mathlib.Core.List.{List, [], ◌∷◌}
use Prim.Native.Nat.{ℕ, ◌+◌, ◌<◌, ◌≤◌}
use native.Mathlib.Nat.{min-le_left}
use native.Mathlib.Omega.{arith}
use lib.ListN.{length, get_or, take, drop, length-take}
use lib.Seq.{get_or-take, get_or-drop}
use Rattle.text.proofs.Parts.{one_column}
use Rattle.layout.specs.Page.{start_of, width_of, text_of, first_byte}
use Rattle.layout.proofs.Columns.{narrow}

-- columns that start where element e does and are as many are its own
pub own_columns : (xs ts : List ℕ) (e start d : ℕ) → start ≡ start_of e → d ≡ width_of e → ts ≡ take d (drop start xs) → ts ≡ text_of e xs
unfolding text_of
own_columns xs ts e start d f g h = h ∙ rw (f, g)

pub own_width : (xs ts : List ℕ) (e : ℕ) → ts ≡ text_of e xs → length ts ≤ 7
unfolding text_of
own_width xs ts e f = rw (f, length-take) (omega (arith, min-le_left (width_of e) (length (drop (start_of e) xs)), narrow e))

-- a byte of an element is one of the record's, and an element of one column is its first byte
pub text_byte : (xs : List ℕ) (e p : ℕ) → p < width_of e → get_or (text_of e xs) p 0 ≡ get_or xs (start_of e + p) 0
unfolding text_of
text_byte xs e p h = get_or-take (width_of e) (drop (start_of e) xs) p 0 h ∙ get_or-drop (start_of e) xs p 0

pub one_byte : (xs : List ℕ) (e : ℕ) → width_of e ≡ 1 → start_of e < length xs → text_of e xs ≡ first_byte e xs ∷ []
unfolding text_of
one_byte xs e w h = ap (λ (n : ℕ). take n (drop (start_of e) xs)) w ∙ one_column xs (start_of e) h
