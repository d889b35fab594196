-- A test at every byte of a text, and the run of bytes at the front that pass it: in the words of std, and byte by byte. Assumes nothing.
use mathlib.Core.Path.{◌≡◌, refl, ◌∙◌}
use mathlib.Core.Bool.{Bool, true, false, ◌&&◌, cond}
use mathlib.Core.List.{List, [], ◌∷◌}
use Prim.Native.Nat.{ℕ, zero, suc, ◌+◌, ◌<◌, ◌≤◌, zero-le, suc-le-suc}
use native.Mathlib.Nat.{le_of_suc-le-suc, not-suc-le-zero}
use native.Mathlib.Numerals.{add-one, one-add}
use lib.Dec.{eqb, eqb-suc-suc, eqb-zero-suc}
use lib.ListN.{length, get_or, drop, drop_of_length-le}
use lib.Seq.{drop-cons}
use Rattle.std.specs.List.{list_all, prefix_len}
use Rattle.text.specs.Bytes.{every, run}
use Rattle.text.proofs.Ways.{and_first, and_second}

module _ (p : ℕ → Bool) (xs : List ℕ) (i : ℕ) where
  -- one byte more, and the end
  pub on : i < length xs → p (get_or xs i 0) ≡ true → every p (drop i xs) ≡ every p (drop (i + 1) xs)
  unfolding every
  on h t = rw (add-one, drop-cons xs i 0 h, t)

  pub end : length xs ≤ i → every p (drop i xs) ≡ true
  unfolding every
  end h = rw (drop_of_length-le xs h)

-- the word of std for the same
pub all_every : (p : ℕ → Bool) (xs : List ℕ) → list_all p xs ≡ every p xs
unfolding every
all_every p [] = refl
all_every p (x ∷ xs) = rw (all_every p xs)

pub prefix_run : (p : ℕ → Bool) (xs : List ℕ) → prefix_len p xs ≡ run p xs
unfolding run
prefix_run p [] = refl
prefix_run p (x ∷ xs) = rw (prefix_run p xs, one-add)

-- what passes at every byte passes at the byte at i
pub every_at : (p : ℕ → Bool) (xs : List ℕ) → every p xs ≡ true → (i : ℕ) → i < length xs → p (get_or xs i 0) ≡ true
unfolding every
every_at p [] e i h = absurd (not-suc-le-zero h)
every_at p (x ∷ xs) e zero h = and_first (p x) (every p xs) e
every_at p (x ∷ xs) e (suc i) h = every_at p xs (and_second (p x) (every p xs) e) i (le_of_suc-le-suc h)

run_step : (t : Bool) {m n : ℕ} → m ≤ n → cond t (suc m) 0 ≤ suc n
run_step true h = suc-le-suc h
run_step false h = zero-le

pub run_fits : (p : ℕ → Bool) (xs : List ℕ) → run p xs ≤ length xs
unfolding run
run_fits p [] = zero-le
run_fits p (x ∷ xs) = run_step (p x) (run_fits p xs)

-- a test passes at every byte exactly where its run is the whole text
whole_step : (t b : Bool) (m n : ℕ) → eqb m n ≡ b → eqb (cond t (suc m) 0) (suc n) ≡ (t && b)
whole_step true b m n e = eqb-suc-suc m n ∙ e
whole_step false b m n e = eqb-zero-suc n

pub whole_run : (p : ℕ → Bool) (xs : List ℕ) → eqb (run p xs) (length xs) ≡ every p xs
unfolding run every
whole_run p [] = refl
whole_run p (x ∷ xs) = whole_step (p x) (every p xs) (run p xs) (length xs) (whole_run p xs)
