-- What each way through `check` and `check_in` says of `checked` and `checked_in`. Assumes nothing.
use mathlib.Core.Path.{◌≡◌, refl, sym, ap, ◌∙◌}
use mathlib.Core.Bool.{Bool, true, false, ◌||◌}
use mathlib.Core.List.{List}
use Prim.Native.Nat.{ℕ, ◌<◌, ◌≤◌}
use native.Mathlib.Omega.{arith}
use lib.Dec.{eqb}
use borrow.Author.Tests.{eq-eqb, ne_eqb, eqb-true}
use lib.ListN.{length}
use Rattle.text.specs.First.{first_of, nonzero}
use Rattle.text.proofs.First.{nonzero_is, nonzero_some, nonzero_none}
use Rattle.layout.specs.declared.Edition.{Edition}
use Rattle.refusals.specs.declared.Refusal.{Refusal}
use Rattle.refusals.specs.declared.Refusal.TheVariants.{Length, Unprintable, Format, EditionLength, Illegal, Broken}
use Rattle.refusals.specs.Verdicts.{refused_at}
use Rattle.layout.specs.Editions.{edition_of, length_of, last_of}
use Rattle.layout.specs.Page.{first_byte, legal}
use Rattle.layout.proofs.Demand2Columns.{column_1, column_111}
use Rattle.ties.specs.Ties.{first_broken}
use Rattle.checking.specs.Check.{known_length, known_format, printable_at, named, column, checked_in, checked, Answer}
use Rattle.checking.proofs.Placed.{first_of_lem}
use Rattle.std.proofs.Common.{Option, Some, None, Ok, Err}

-- a place was found, or none was
found : (r : ℕ → Refusal) (p m : ℕ) (next : Answer) → nonzero p ≡ Some m → Err (r m) ≡ refused_at Err r p next
found r p m next h = rw (nonzero_is p m h, ne_eqb m 0 (λ e. omega (arith, nonzero_some p m h)))

nowhere : (r : ℕ → Refusal) (p : ℕ) (next : Answer) → nonzero p ≡ None → next ≡ refused_at Err r p next
nowhere r p next h = rw (nonzero_none p h)

module _ (ed : Edition) (xs : List ℕ) where
  pub wrong_length : (length xs ≡ length_of ed → ⊥) → Err EditionLength ≡ checked_in (Some ed) xs
  unfolding checked_in
  wrong_length h = rw (ne_eqb _ _ h)

  module _ (f : length xs ≡ length_of ed) where
    pub illegal : (e : ℕ) → nonzero (first_of (last_of ed) (legal ed xs)) ≡ Some e → Err (Illegal e) ≡ checked_in (Some ed) xs
    unfolding checked_in
    illegal e h = rw (eq-eqb _ _ f) (found Illegal _ e _ h)

    module _ (z : nonzero (first_of (last_of ed) (legal ed xs)) ≡ None) where
      pub broken : (k : ℕ) → nonzero (first_broken ed xs) ≡ Some k → Err (Broken k) ≡ checked_in (Some ed) xs
      unfolding checked_in
      broken k h = rw (eq-eqb _ _ f) (found Broken _ k _ h ∙ nowhere Illegal _ _ z)

      pub accepted : nonzero (first_broken ed xs) ≡ None → Ok ed ≡ checked_in (Some ed) xs
      unfolding checked_in
      accepted h = rw (eq-eqb _ _ f) (nowhere Broken _ _ h ∙ nowhere Illegal _ _ z)

either_length : (n : ℕ) (a b : Bool) → a ≡ eqb n 131 → b ≡ eqb n 159 → (a || b) ≡ true → 131 ≤ n
either_length n true b e f h = let k : n ≡ 131 = eqb-true n 131 (sym e) in omega arith
either_length n false b e f h = let k : n ≡ 159 = eqb-true n 159 (sym f ∙ h) in omega arith

module _ (xs : List ℕ) (r : Bool) (e : r ≡ known_length (length xs)) where
  pub unknown_length : r ≡ false → Err Length ≡ checked xs
  unfolding checked
  unknown_length h = rw (← e, h)

  pub long_enough : r ≡ true → 131 ≤ length xs
  long_enough h = either_length (length xs) _ _ refl refl (sym e ∙ h)

  module _ (h : r ≡ true) where
    pub unprintable : (c : ℕ) → nonzero (first_of (length xs) (printable_at xs)) ≡ Some c → Err (Unprintable c) ≡ checked xs
    unfolding checked
    unprintable c k = rw (← e, h) (found Unprintable _ c _ k)

    module _ (z : nonzero (first_of (length xs) (printable_at xs)) ≡ None) where
      format : known_format (first_byte 1 xs) ≡ known_format (column 1 xs)
      format = ap known_format (sym (first_of_lem xs 1 1 column_1 (omega (arith, long_enough h))))

      pub unknown_format : known_format (first_byte 1 xs) ≡ false → Err Format ≡ checked xs
      unfolding checked
      unknown_format k = rw (← e, h, ← format, k) (nowhere Unprintable _ _ z)

      pub by_edition : known_format (first_byte 1 xs) ≡ true → (m : Option Edition) → m ≡ edition_of (first_byte 65 xs) → checked_in m xs ≡ checked xs
      unfolding checked
      by_edition k m n =
          let o : m ≡ named xs = n ∙ ap edition_of (sym (first_of_lem xs 65 111 column_111 (omega (arith, long_enough h)))) in
          rw (← e, h, ← format, k, ← o) (nowhere Unprintable _ _ z)

-- a line that is too long for any record is refused for its length
pub too_long : (xs : List ℕ) → 159 < length xs → checked xs ≡ Err Length
too_long xs h = sym
    (unknown_length xs (known_length (length xs)) refl
    (rw (ne_eqb (length xs) 131 (λ e. omega arith), ne_eqb (length xs) 159 (λ e. omega arith))))
