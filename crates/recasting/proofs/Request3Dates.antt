-- Request 3: recasting can't make a date bad, as it doesn't touch one. Assumes nothing.
use Rattle.std.specs.Prelude.{Ok}
use mathlib.Core.Path.{◌≡◌, refl}
use mathlib.Core.List.{List}
use Prim.Native.Nat.{ℕ}
use Rattle.layout.specs.declared.Edition.{Edition}
use Rattle.layout.specs.Page.{text_of}
use Rattle.ties.specs.Ties.{tie}
use Rattle.checking.specs.Check.{checked}
use Rattle.checking.proofs.Demand2Acceptance.{accepted_exactly}
use Rattle.recasting.specs.Recast.{recast_record}
use Rattle.recasting.proofs.TiedLaws.{unchanged, as_before}

module _ (from to : Edition) (xs : List ℕ) (ok : checked xs ≡ Ok from) where
  -- the characters of year, month and day stay
  abbrev Stays : ℕ → Type 0
  Stays e = text_of e (recast_record from to xs) ≡ text_of e xs

  pub date_stays : Stays 2 × (Stays 3 × Stays 4)
  date_stays = let stays = unchanged from to xs ((accepted_exactly xs from).0 ok) in (stays 2 refl, (stays 3 refl, stays 4 refl))

  -- so tie 10 holds of the recast exactly as of the record
  pub date_as_before : tie to (recast_record from to xs) 10 ≡ tie from xs 10
  date_as_before = as_before from to xs ((accepted_exactly xs from).0 ok) 10 refl
