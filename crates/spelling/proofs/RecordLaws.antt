-- The record that is spelled: as long as its edition, each element's text where the page has it. Assumes nothing.
use mathlib.Core.Path.{◌≡◌}
use mathlib.Core.List.{List}
use Prim.Native.Nat.{ℕ, ◌≤◌}
use lib.ListN.{length}
use Rattle.numerals.proofs.Spellings.{spelled_length}
use Rattle.layout.specs.declared.Edition.{Edition}
use Rattle.layout.specs.Editions.{length_of, last_of}
use Rattle.layout.specs.Page.{width_of, text_of}
use Rattle.layout.proofs.RecordLaws as Records
use Rattle.reading.specs.declared.Reading.{Reading}
use Rattle.spelling.specs.Spelled.{text_for, record_of}

module _ (ed : Edition) (rs : List Reading) where
  text_length : (e : ℕ) → length (text_for ed rs e) ≡ width_of e
  text_length e = spelled_length _ _ (width_of e) _

  pub record_long : length (record_of ed rs) ≡ length_of ed
  unfolding record_of
  record_long = Records.record_long (text_for ed rs) text_length ed

  -- each element's text stands where the page has it
  pub record_text : (e : ℕ) → 1 ≤ e → e ≤ last_of ed → text_of e (record_of ed rs) ≡ text_for ed rs e
  unfolding record_of
  record_text e h l = Records.record_text (text_for ed rs) text_length ed e h l
