-- What a verdict must say to fit the readings, the edition number and the room: document 01's 8, 6, 7, 9 in this order, the first that fails with its place.
-- Assumes nothing.
use Rattle.std.specs.Prelude.{ℕ, ◌<◌, ◌≤◌, ◌≡◌, true, false, List, Err, None, Ok, Some}
use Rattle.layout.specs.declared.Edition.{Edition}
use Rattle.refusals.specs.declared.Refusal.TheVariants.{Illegal, Broken, Unheld, Room}
use Rattle.layout.specs.Editions.{asked, length_of}
use Rattle.ties.specs.Ties.{tie}
use Rattle.reading.specs.declared.Reading.{Reading}
use Rattle.spelling.specs.Spelled.{record_of}
use Rattle.refusals.specs.Verdicts.{Verdict}
use Rattle.writing.specs.Givable.{Givable, Ungivable}

-- legal texts give every reading; every tie holds, or every one below k
abbrev pub AllGivable : Edition → List Reading → Type 0
AllGivable ed rs = (e : ℕ) → 1 ≤ e → Givable ed rs e

abbrev pub TiedBelow : Edition → List Reading → ℕ → Type 0
TiedBelow ed rs k = (j : ℕ) → j < k → tie ed (record_of ed rs) j ≡ true

abbrev pub AllTied : Edition → List Reading → Type 0
AllTied ed rs = (k : ℕ) → tie ed (record_of ed rs) k ≡ true

pub data FitsIn (ed : Edition) (rs : List Reading) (room : ℕ) : Verdict → Type 0 where
  ungivable : (e : ℕ) → Ungivable ed rs e → FitsIn ed rs room (Err (Illegal e))
  broken : AllGivable ed rs → (k : ℕ) → tie ed (record_of ed rs) k ≡ false → TiedBelow ed rs k → FitsIn ed rs room (Err (Broken k))
  cramped : AllGivable ed rs → AllTied ed rs → room < length_of ed → FitsIn ed rs room (Err Room)
  written : AllGivable ed rs → AllTied ed rs → length_of ed ≤ room → FitsIn ed rs room (Ok tt)

pub data Fits (rs : List Reading) (edition room : ℕ) : Verdict → Type 0 where
  unheld : asked edition ≡ None → Fits rs edition room (Err Unheld)
  held : (ed : Edition) → asked edition ≡ Some ed → (o : Verdict) → FitsIn ed rs room o → Fits rs edition room o
