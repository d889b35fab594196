-- Texts placed in some bytes: what stands up to their end, and one after the other. Assumes nothing.
use mathlib.Core.Path.{◌≡◌, sym, ap, ◌∙◌}
use mathlib.Core.List.{List, [], ◌++◌, append_assoc, append-nil}
use Prim.Native.Nat.{ℕ, ◌+◌, ◌≤◌}
use native.Mathlib.Nat.{add-zero}
use native.Mathlib.Omega.{arith}
use lib.ListN.{length, take, drop, length-append, length-drop, take-append-drop}
use lib.Seq.{length-take-le, take-append_seam, take_at, drop_at, drop-drop}
use Rattle.numerals.specs.Numerals.{placed}

-- bytes placed in some others: what stands up to their end
pub placed_to : (at : ℕ) (t before : List ℕ) → at ≤ length before → take (at + length t) (placed at t before) ≡ take at before ++ t
placed_to at t before h =
    take_at (take at before ++ t) (drop (at + length t) before) (at + length t) (length-append (take at before) t ∙ ap (λ (k : ℕ). k + length t) (length-take-le at before h))

-- nothing placed changes nothing
pub placed_none : (at : ℕ) (before : List ℕ) → placed at [] before ≡ before
placed_none at before = rw (append-nil, add-zero) (take-append-drop at before)

-- a text placed within the bytes leaves as many as there were
pub placed_length : (at : ℕ) (t before : List ℕ) → at + length t ≤ length before → length (placed at t before) ≡ length before
placed_length at t before h =
    let rest : List ℕ = drop (at + length t) before in
    omega (arith, length-append (take at before ++ t) rest, length-append (take at before) t, length-take-le at before (omega arith), length-drop (at + length t) before)

-- what was placed at the front stands there
pub placed_front : (t before : List ℕ) → take (length t) (placed 0 t before) ≡ t
placed_front t before = take-append_seam t (drop (0 + length t) before)

-- two texts, the second right after the first, are one text
pub placed_twice : (at : ℕ) (t u before : List ℕ) → at + length t + length u ≤ length before →
    placed (at + length t) u (placed at t before) ≡ placed at (t ++ u) before
placed_twice at t u before h =
    let rest : List ℕ = drop (at + length t) before in
    let head : List ℕ = take at before ++ t in
    let long : length head ≡ at + length t = length-append (take at before) t ∙ ap (λ (k : ℕ). k + length t) (length-take-le at before (omega arith)) in
    let front : take (at + length t) (placed at t before) ≡ head = take_at head rest (at + length t) long in
    let both : at + length t + length u ≡ at + length (t ++ u) = omega (arith, length-append t u) in
    let back : drop (at + length t + length u) (placed at t before) ≡ drop (at + length (t ++ u)) before =
    sym (drop-drop (length u) (at + length t) (placed at t before)) ∙
    ap (drop (length u)) (drop_at head rest (at + length t) long) ∙
    drop-drop (length u) (at + length t) before ∙
    ap (λ (k : ℕ). drop k before) both in
    rw (front, back) (simp append_assoc)
