-- Demand 2: a record is accepted exactly when it has the columns, codes and ties of its edition. Assumes nothing.
use mathlib.Core.Path.{◌≡◌, refl, ap, ◌∙◌}
use mathlib.Core.Logic.{◌↔◌}
use mathlib.Core.Bool.{Bool, true}
use mathlib.Core.List.{List}
use Prim.Native.Nat.{ℕ, ◌+◌, ◌<◌, ◌≤◌}
use native.Mathlib.Omega.{arith}
use borrow.Author.Tests.{eq-eqb}
use lib.ListN.{length}
use Rattle.text.proofs.First.{at_none, none_of_all}
use Rattle.layout.specs.declared.Edition.{Edition}
use Rattle.layout.specs.declared.Edition.TheVariants.{One, Three, Four}
use Rattle.layout.specs.Editions.{length_of, last_of}
use Rattle.layout.specs.Page.{legal}
use Rattle.ties.proofs.TieLaws.{is_lowest}
use Rattle.checking.specs.Check.{known_length, printable_at, checked_in, checked}
use Rattle.checking.specs.Acceptable.{Acceptable, Fits}
use Rattle.checking.proofs.Told.{Told, told}
use Rattle.std.proofs.Common.{Ok}

known : (ed : Edition) → known_length (length_of ed) ≡ true
known One = refl
known Three = refl
known Four = refl

-- the places 1 to n, as a look counts them
up_to : (n : ℕ) (test : ℕ → Bool) → ((k : ℕ) → 1 ≤ k → k ≤ n → test k ≡ true) → (k : ℕ) → 1 ≤ k → k < 1 + n → test k ≡ true
up_to n test f k h l = f k h (omega arith)

all_kept : (ed : Edition) (xs : List ℕ) → Acceptable ed xs → checked xs ≡ Ok ed
unfolding checked checked_in
all_kept ed xs a =
    let n : known_length (length xs) ≡ true = ap known_length a.full ∙ known ed in
    rw (
      n,
      none_of_all (printable_at xs) (length xs) (up_to _ (printable_at xs) a.prints),
      a.format,
      a.names,
      eq-eqb _ _ a.full,
      none_of_all (legal ed xs) (last_of ed) (up_to _ (legal ed xs) a.lawful),
      is_lowest ed xs 0 (at_none a.tied),
    )

pub accepted_exactly : (xs : List ℕ) (ed : Edition) → (checked xs ≡ Ok ed) ↔ Acceptable ed xs
unfolding Told Fits
accepted_exactly xs ed = ((λ e. (rw e at (told xs)).0), all_kept ed xs)
