-- The end of a line, looked for sixteen bytes at a time. Assumes nothing.
use mathlib.Core.Path.{◌≡◌, refl, sym, ap, ◌∙◌}
use mathlib.Core.Bool.{Bool, true, false}
use mathlib.Core.List.{List, [], ◌∷◌, ◌++◌}
use Prim.Native.Nat.{ℕ, ◌+◌, ◌-◌, ◌≤◌}
use native.Mathlib.Omega.{arith}
use lib.Bits.{bit_or, or_add_and, and_le_l, and_le_r}
use lib.Dec.{eqb}
use lib.ListN.{length, take, drop, length-drop}
use lib.Seq.{length-take-le, drop-drop}
use Rattle.std.specs.Int.{from_bool}
use Rattle.std.specs.List.{fold}
use Rattle.std.proofs.lemmas.List.{take-append-drop}
use Rattle.octets.specs.Octets.{index_of, index_after}
use Rattle.reporting.specs.Lines.{next_end}

-- two numbers joined are 0 where both are
module _ (a b : ℕ) (none : bit_or a b ≡ 0) where
  left_none : a ≡ 0
  left_none = omega (arith, or_add_and a b, and_le_l a b, and_le_r a b)

  right_none : b ≡ 0
  right_none = omega (arith, or_add_and a b, and_le_l a b, and_le_r a b)

-- what was found so far, and whether one byte more ends a line
abbrev joined : ℕ → ℕ → ℕ
joined found byte = bit_or found (from_bool (eqb byte 10))

-- where nothing is found in some bytes, the line ends after them
none_ends : (bytes rest : List ℕ) (found : ℕ) → fold joined found bytes ≡ 0 → (found ≡ 0) × (index_of 10 (bytes ++ rest) ≡ length bytes + index_of 10 rest)
unfolding index_of index_after
none_ends [] rest found e = (e, omega arith)
none_ends (b ∷ bytes) rest found e = by (eqb b 10) refl (none_ends bytes rest (joined found b) e)
  where
    by : (x : Bool) → eqb b 10 ≡ x → (joined found b ≡ 0) × (index_of 10 (bytes ++ rest) ≡ length bytes + index_of 10 rest) →
        (found ≡ 0) × (index_after x (index_of 10 (bytes ++ rest)) ≡ length (b ∷ bytes) + index_of 10 rest)
    by true h later = absurd (omega (arith, right_none found (from_bool (eqb b 10)) later.0, ap from_bool h))
    by false h later = (left_none found (from_bool (eqb b 10)) later.0, omega (arith, later.1))

-- and so it does in a part of a piece
pub end_passed : (piece : List ℕ) (at end : ℕ) → at ≤ end → end ≤ length piece → fold joined 0 (take (end - at) (drop at piece)) ≡ 0 → next_end piece at ≡ next_end piece end
end_passed piece at end h k none =
    let rest = drop at piece in
    let full : length (take (end - at) rest) ≡ end - at = length-take-le (end - at) rest (omega (arith, length-drop at piece)) in
    let split : index_of 10 rest ≡ index_of 10 (take (end - at) rest ++ drop (end - at) rest) = ap (index_of 10) (sym (take-append-drop (end - at) rest)) in
    let sum : at + (end - at) ≡ end = omega arith in
    let after : index_of 10 (drop (end - at) rest) ≡ index_of 10 (drop end piece) = ap (index_of 10) (drop-drop (end - at) at piece ∙ ap (λ (n : ℕ). drop n piece) sum) in
    omega (arith, full, split, after, (none_ends (take (end - at) rest) (drop (end - at) rest) 0 none).1)

-- what is left of the piece
pub end_found : (piece : List ℕ) (at : ℕ) {r : ℕ} → r ≡ at + index_of 10 (drop at piece) → r ≡ next_end piece at
end_found piece at e = e
