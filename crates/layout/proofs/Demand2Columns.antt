-- Demand 2: the columns of an edition. Assumes nothing.
--     widths_fill    the widths fill each edition exactly: they sum to 131 over elements 1 to 85 and to 159 over 1 to 101
--     one_by_one     each element starts where the one before it ends, the first in the first column
--     column_N       the columns that document 01 speaks of are where the widths put them: 1 is element 1, 12 element 6, 72 the first of element 42, 111 element 65
--     printed        the columns of some elements, as the published page prints them
use mathlib.Core.Path.{◌≡◌, refl}
use mathlib.Core.List.{[], ◌∷◌, map}
use Prim.Native.Nat.{ℕ, ◌+◌}
use lib.ListN.{take}
use Rattle.layout.specs.declared.Edition.{Edition}
use Rattle.layout.specs.declared.Edition.TheVariants.{One, Three, Four}
use Rattle.layout.specs.Editions.{length_of, last_of}
use Rattle.layout.specs.Page.{page, element, columns, start_of, width_of}
use Rattle.layout.proofs.Columns.{start_next}

pub widths_fill : (ed : Edition) → columns (take (last_of ed) page) ≡ length_of ed
unfolding columns page
widths_fill One = refl
widths_fill Three = refl
widths_fill Four = refl

pub one_by_one : (start_of 1 ≡ 0) × ((e : ℕ) → start_of (e + 1) ≡ start_of e + width_of e)
unfolding start_of columns
one_by_one = (refl, start_next)

-- counted from 1
pub column_1 : start_of 1 + 1 ≡ 1
unfolding start_of columns
column_1 = refl

pub column_12 : start_of 6 + 1 ≡ 12
unfolding start_of columns page
column_12 = refl

pub column_72 : start_of 42 + 1 ≡ 72
unfolding start_of columns page
column_72 = refl

pub column_111 : start_of 65 + 1 ≡ 111
unfolding start_of columns page
column_111 = refl

-- the first and the last column of an element
abbrev pub printed_columns : ℕ → ℕ × ℕ
printed_columns e = (start_of e + 1, start_of e + width_of e)

pub printed : map printed_columns (1 ∷ 2 ∷ 6 ∷ 8 ∷ 11 ∷ 17 ∷ 20 ∷ 29 ∷ 38 ∷ 42 ∷ 43 ∷ 48 ∷ 51 ∷ 58 ∷ 65 ∷ 66 ∷ 85 ∷ 86 ∷ 87 ∷ 91 ∷ 93 ∷ 94 ∷ 101 ∷ []) ≡
    (1, 1) ∷ (2, 5) ∷ (12, 12) ∷ (16, 19) ∷ (22, 23) ∷ (31, 33) ∷ (38, 41) ∷ (51, 53) ∷ (67, 68) ∷ (72, 78) ∷ (79, 80) ∷ (85, 87) ∷ (90, 92) ∷ (103, 104) ∷ (111, 111) ∷ (112, 112) ∷
    (131, 131) ∷ (132, 132) ∷ (133, 135) ∷ (143, 145) ∷ (149, 151) ∷ (152, 152) ∷ (159, 159) ∷ []
unfolding start_of columns page element
printed = refl
