-- A copy of the record in the columns of the target: the front that every edition has, and behind it the rest of the record or blanks. Assumes nothing.
use mathlib.Core.Path.{◌≡◌, sym, ap, ◌∙◌}
use mathlib.Core.Bool.{true, false}
use mathlib.Core.List.{List, [], ◌++◌, append-nil}
use Prim.Native.Nat.{ℕ, ◌-◌}
use native.Mathlib.Omega.{arith}
use borrow.Rule.Slice.PartMut.{put_mid}
use lib.ListN.{length, take, drop, length-append, length-drop, take-append-drop, drop_of_length-le}
use lib.Seq.{length-take-le, take_all, take_at, drop_at, take-append-le}
use Rattle.numerals.specs.Numerals.{spelled}
use Rattle.layout.specs.declared.Edition.{Edition}
use Rattle.layout.specs.Editions.{length_of}
use Rattle.layout.proofs.RecordLaws.{shortest}
use Rattle.places.specs.Column12.{is_first}
use Rattle.blanking.proofs.RowLaws.{first_length, other_length}
use Rattle.recasting.specs.Recast.{blanks, widened}
use Rattle.recasting.proofs.WidenLaws.{widened_long}

-- a copy as long as what it is copied into
pub whole_copy : (s d after : List ℕ) → length s ≡ length d → after ≡ s ++ drop (length s) d → after ≡ s
whole_copy s d after h f = f ∙ ap (λ (t : List ℕ). s ++ t) (drop_of_length-le d {i = length s} (omega arith)) ∙ append-nil s

module _ (from : Edition) (xs : List ℕ) (full : length xs ≡ length_of from) where
  -- what stands behind the front
  pub rest_blank : is_first from ≡ true → blanks 28 ≡ drop 131 (widened xs)
  unfolding widened
  rest_blank f =
      let n : length xs ≡ 131 = full ∙ first_length from f in
      let m : 159 - length xs ≡ 28 = omega arith in
      ap blanks (sym m) ∙ sym (drop_at xs (blanks (159 - length xs)) 131 n)

  pub rest_own : is_first from ≡ false → take 28 (drop 131 xs) ≡ drop 131 (widened xs)
  unfolding widened spelled
  rest_own f =
      let n : length xs ≡ 159 = full ∙ other_length from f in
      let m : 159 - length xs ≡ 0 = omega arith in
      take_all 28 (drop 131 xs) (rw length-drop (omega arith)) ∙ ap (drop 131) (sym (append-nil xs) ∙ ap (λ (k : ℕ). xs ++ blanks k) (sym m))

  pub own_long : is_first from ≡ false → length (take 28 (drop 131 xs)) ≡ 28
  own_long f = length-take-le 28 (drop 131 xs) (rw length-drop (omega (arith, full, other_length from f)))

  -- the front of it
  front : take 131 (widened xs) ≡ take 131 xs
  unfolding widened
  front = take-append-le 131 xs (blanks (159 - length xs)) (omega (arith, shortest from))

  pub front_long : length (take 131 xs) ≡ 131
  front_long = length-take-le 131 xs (omega (arith, shortest from))

  module _ (to : Edition) (row mid : List ℕ) (room : length row ≡ length_of to) (copy : mid ≡ take 131 xs ++ drop (length (take 131 xs)) row) where
    copied : mid ≡ take 131 xs ++ drop 131 row
    copied = copy ∙ ap (λ (n : ℕ). take 131 xs ++ drop n row) front_long

    pub mid_long : length mid ≡ length_of to
    mid_long = ap length copied ∙ length-append (take 131 xs) (drop 131 row) ∙ rw length-drop (omega (arith, front_long, shortest to))

    pub filled_first : is_first to ≡ true → mid ≡ take (length_of to) (widened xs)
    filled_first f =
        let n : length_of to ≡ 131 = first_length to f in
        copied ∙ ap (λ (t : List ℕ). take 131 xs ++ t) (drop_of_length-le row {i = 131} (omega arith)) ∙ append-nil (take 131 xs) ∙ sym front ∙ ap (λ (k : ℕ). take k (widened xs)) (sym n)

    module _ (f : is_first to ≡ false) where
      pub rest_long : length (take (length mid - 131) (drop 131 mid)) ≡ 28
      rest_long = length-take-le (length mid - 131) (drop 131 mid) (rw length-drop (omega arith)) ∙ omega (arith, mid_long, other_length to f)

      pub filled_other : (rest : List ℕ) → rest ≡ drop 131 (widened xs) → put_mid 131 (length mid - 131) mid rest ≡ take (length_of to) (widened xs)
      filled_other rest g =
          let none : drop (length mid - 131) (drop 131 mid) ≡ [] = drop_of_length-le (drop 131 mid) {i = length mid - 131} (rw length-drop (omega arith)) in
          ap (λ (t : List ℕ). take 131 mid ++ (rest ++ t)) none ∙ ap (λ (t : List ℕ). take 131 mid ++ t) (append-nil rest ∙ g) ∙
          ap (λ (t : List ℕ). t ++ drop 131 (widened xs)) (ap (take 131) copied ∙ take_at (take 131 xs) (drop 131 row) 131 front_long ∙ sym front) ∙
          take-append-drop 131 (widened xs) ∙ sym (take_all (length_of to) (widened xs) (omega (arith, widened_long from xs full, other_length to f)))
