-- Elements that are never lost: all editions have the same texts for them and take them in one sense, or they have a rule of their own. Assumes nothing.
use Rattle.layout.proofs.PartLaws.{coordinate_cases, temperature_cases, sign_cases}
use mathlib.Core.Path.{◌≡◌, refl}
use mathlib.Core.Bool.{Bool, true, false, not, ◌&&◌, ◌||◌}
use mathlib.Core.Logic.{⊎_elim}
use mathlib.Core.List.{List}
use Prim.Native.Nat.{ℕ, ◌≤◌}
use native.Mathlib.Omega.{arith}
use borrow.Author.Tests.{ne_eqb, not-true}
use lib.Dec.{eqb}
use Rattle.text.specs.Bytes.{between}
use Rattle.text.proofs.Among.{either_half, at_number}
use Rattle.text.proofs.Ranges.{least, greatest}
use Rattle.text.proofs.Ways.{and_first, and_second}
use Rattle.layout.specs.declared.Edition.{Edition}
use Rattle.layout.specs.Page.{text_of, legal, is_coordinate, is_sign}
use Rattle.layout.proofs.Beyond.{last_above}
use Rattle.checking.specs.Acceptable.{Acceptable}
use Rattle.meanings.specs.Meaning.{shares}
use Rattle.meanings.specs.Kept.{lost_at}
use Rattle.meanings.proofs.KeepLaws.{early_kept, added_kept, version_kept}
use Rattle.recasting.proofs.ResultLaws.{result, as_it_was}

-- before column 70 but for column 12, and in columns 81 to 109
abbrev first : ℕ → Bool
first e = between 1 39 e && not (eqb e 6)

abbrev pub steady : ℕ → Bool
steady e = first e || between 44 63 e

module _ (from to : Edition) (xs : List ℕ) (a : Acceptable from xs) where
  abbrev pub Never : ℕ → Type 0
  Never e = lost_at from to xs e ≡ false

  early : (e : ℕ) → between 1 39 e ≡ true → Never e
  unfolding legal
  early e h =
      let high = greatest 1 39 e h in
      early_kept from to e (text_of e xs) high (a.lawful e (least 1 39 e h) (omega (arith, last_above from)))

  added : (e : ℕ) → between 44 63 e ≡ true → Never e
  unfolding legal
  added e h =
      let low = least 44 63 e h in
      let high = greatest 44 63 e h in
      added_kept from to e (text_of e xs) low high (a.lawful e (omega arith) (omega (arith, last_above from)))

  pub never : (e : ℕ) → steady e ≡ true → Never e
  never e h = ⊎_elim (λ k. early e (and_first (between 1 39 e) (not (eqb e 6)) k)) (added e) (either_half (first e) (between 44 63 e) h)

  -- columns 12 and 111 have rules of their own
  pub column_12 : Never 6
  column_12 = early 6 refl

  pub version : Never 65
  version = version_kept from to 65 (text_of 65 xs) refl

  -- what shares a reading is never lost
  pub shared : (e : ℕ) → shares e ≡ true → Never e
  shared e h =
      ⊎_elim
      (λ p. ⊎_elim (λ m. at_number Never e 6 m column_12) (coordinate_cases Never e (never 7 refl) (never 8 refl)) (either_half (eqb e 6) _ p))
      (λ p. ⊎_elim
      (sign_cases Never e (never 16 refl) (never 18 refl) (never 28 refl) (never 50 refl))
      (temperature_cases Never e (never 17 refl) (never 19 refl) (never 29 refl) (never 51 refl))
      (either_half (is_sign e) _ p))
      (either_half (eqb e 6 || is_coordinate e) _ h)

  -- a steady element keeps its characters
  pub same : (e : ℕ) → steady e ≡ true → text_of e (result from to xs a) ≡ text_of e xs
  same e h = ⊎_elim (λ k. early_same (and_first (between 1 39 e) (not (eqb e 6)) k) (not-true _ (and_second (between 1 39 e) (not (eqb e 6)) k))) added_same (either_half (first e) (between 44 63 e) h)
    where
      kept : 1 ≤ e → e ≤ 63 → eqb e 6 ≡ false → text_of e (result from to xs a) ≡ text_of e xs
      kept low high six = as_it_was from to xs a e (six, ne_eqb e 65 (λ q. omega arith)) low (omega (arith, last_above from)) (omega (arith, last_above to)) (never e h)

      early_same : between 1 39 e ≡ true → eqb e 6 ≡ false → text_of e (result from to xs a) ≡ text_of e xs
      early_same k = kept (least 1 39 e k) (omega (arith, greatest 1 39 e k))

      added_same : between 44 63 e ≡ true → text_of e (result from to xs a) ≡ text_of e xs
      added_same k =
          let low = least 44 63 e k in
          kept (omega arith) (greatest 44 63 e k) (ne_eqb e 6 (λ q. omega arith))
