-- What the answer to reading a record must say to fit it, with no order of the rules and no word of how it is read. Assumes nothing.
use Rattle.std.specs.Prelude.{ℕ, ◌≤◌, ◌≡◌, List, length, Err, Ok}
use Rattle.layout.specs.Editions.{last_element}
use Rattle.layout.specs.declared.Edition.{Edition}
use Rattle.refusals.specs.declared.Refusal.{Refusal}
use Rattle.checking.specs.Acceptable as Checking
use Rattle.reading.specs.declared.Reading.TheVariants.{Missing}
use Rattle.reading.specs.declared.Readings.{Readings}
use Rattle.reading.specs.Readings.{reading_of}
use Rattle.reading.specs.Answers.{read_as}

pub record Fits (xs : List ℕ) (all : Readings) : Type 0 where
  -- the record is one of that edition, or that refusal's rule is the first to fail, at that place
  pub checks : Checking.Fits xs all.answer
  -- there are always 101 entries
  pub full : length all.entries ≡ last_element
  -- each element of an accepted record reads as its columns say
  pub reads : (ed : Edition) → all.answer ≡ Ok ed → (e : ℕ) → 1 ≤ e → e ≤ last_element → read_as all.entries e ≡ reading_of ed xs e
  -- a refused record has no readings
  pub none : (r : Refusal) → all.answer ≡ Err r → (e : ℕ) → 1 ≤ e → e ≤ last_element → read_as all.entries e ≡ Missing
