-- Which readings can be written at all, said over every text and with no word of how the writer spells. Assumes nothing.
use Rattle.std.specs.Prelude.{ℕ, ◌<◌, ◌≤◌, ◌≡◌, true, List, length}
use Rattle.layout.specs.declared.Edition.{Edition}
use Rattle.layout.specs.Editions.{length_of, last_element}
use Rattle.layout.specs.Page.{legal}
use Rattle.reading.specs.declared.Reading.{Reading}
use Rattle.reading.specs.Readings.{lead, reading_of}
use Rattle.spelling.specs.Spelled.{given}

-- legal texts give the reading of element e: some text as long as the edition's records has them in the columns of e and of the elements that share its
-- reading, and each of those reads as the reading that is given for it
pub record Givable (ed : Edition) (rs : List Reading) (e : ℕ) : Type 0 where
  pub text : List ℕ
  pub full : length text ≡ length_of ed
  pub lawful : (f : ℕ) → 1 ≤ f → f ≤ last_element → lead f ≡ lead e → legal ed text f ≡ true
  pub reads : (f : ℕ) → 1 ≤ f → f ≤ last_element → lead f ≡ lead e → reading_of ed text f ≡ given rs f

-- 6: the lowest element whose reading no legal texts give, the lowest of those that share it
pub record Ungivable (ed : Edition) (rs : List Reading) (e : ℕ) : Type 0 where
  pub low : 1 ≤ e
  pub leads : lead e ≡ e
  pub none : Givable ed rs e → ⊥
  pub earlier : (j : ℕ) → 1 ≤ j → j < e → Givable ed rs j
