-- The line that has not ended, kept as far as 160 bytes go. Assumes nothing.
use mathlib.Core.Path.{◌≡◌, sym, ap, ◌∙◌}
use mathlib.Core.List.{List, ◌++◌}
use Prim.Native.Nat.{ℕ, ◌+◌, ◌-◌, ◌≤◌, min}
use native.Mathlib.Nat.{min_comm}
use native.Mathlib.Omega.{arith}
use lib.ListN.{length, take}
use lib.Seq.{take-append-add, length-take-le}
use Rattle.std.proofs.lemmas.List.{take_min}

-- what is kept of what is held and of the bytes that follow
pub keep_end : (held bytes : List ℕ) (count n : ℕ) → count ≤ 160 → length held ≡ 160 → n ≡ min (length bytes) (160 - count) →
    take count held ++ take n bytes ≡ take 160 (take count held ++ bytes)
keep_end held bytes count n h l e =
    let whole : 160 ≡ length (take count held) + (160 - count) = omega (arith, length-take-le count held (omega arith)) in
    ap (λ (k : ℕ). take count held ++ take k bytes) (e ∙ min_comm (length bytes) (160 - count)) ∙
    ap (λ (t : List ℕ). take count held ++ t) (take_min (160 - count) bytes) ∙
    sym (take-append-add (take count held) bytes (160 - count)) ∙
    ap (λ (k : ℕ). take k (take count held ++ bytes)) (sym whole)
