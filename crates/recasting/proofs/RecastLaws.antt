-- What an accepted record has, and how long its recast is. Assumes nothing.
use Rattle.std.specs.Prelude.{Ok}
use mathlib.Core.Path.{◌≡◌, sym, ◌∙◌}
use mathlib.Core.Bool.{true}
use mathlib.Core.List.{List, ◌++◌}
use Prim.Native.Nat.{ℕ, ◌<◌, ◌≤◌}
use native.Mathlib.Omega.{arith}
use lib.ListN.{length, drop}
use Rattle.layout.specs.declared.Edition.{Edition}
use Rattle.refusals.specs.Lent.{overwritten}
use Rattle.layout.specs.Editions.{length_of, last_of}
use Rattle.layout.specs.Page.{text_of, legal_text, legal}
use Rattle.layout.proofs.RecordLaws.{shortest}
use Rattle.checking.specs.Check.{checked}
use Rattle.checking.proofs.Demand2Acceptance.{accepted_exactly}
use Rattle.recasting.specs.Recast.{recast_record}
use Rattle.recasting.proofs.ResultLaws.{result_long}

pub accepted_long : (from : Edition) (xs : List ℕ) → checked xs ≡ Ok from → 131 ≤ length xs
accepted_long from xs ok = omega (arith, ((accepted_exactly xs from).0 ok).full, shortest from)

pub own_texts : (from : Edition) (xs : List ℕ) → checked xs ≡ Ok from → (length xs ≡ length_of from) × ((e : ℕ) → 1 ≤ e → e ≤ last_of from → legal_text from e (text_of e xs) ≡ true)
unfolding legal
own_texts from xs ok = let a = (accepted_exactly xs from).0 ok in (a.full, a.lawful)

-- the recast record is as long as the target's records are
module _ (from to : Edition) (xs : List ℕ) (n : ℕ) (cut : n ≡ length_of to) (ok : checked xs ≡ Ok from) where
  long : length (recast_record from to xs) ≡ n
  long = result_long from to xs ((accepted_exactly xs from).0 ok) ∙ sym cut

  pub fitting : {room : ℕ} → n ≤ room → length (recast_record from to xs) ≤ room
  fitting h = omega (arith, long)

  pub not_fitting : {room : ℕ} → room < n → room < length (recast_record from to xs)
  not_fitting h = omega (arith, long)

  -- the record in front of what stood behind it
  pub filled : (before row : List ℕ) → row ≡ recast_record from to xs → row ++ drop n before ≡ overwritten (recast_record from to xs) before
  filled before row e = rw (e, ← long)
