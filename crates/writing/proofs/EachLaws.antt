-- The record where no element is refused: each element is legal, reads as it was given, and is spelled from what it reads as. Assumes nothing.
use mathlib.Core.Path.{◌≡◌, sym, ap, ◌∙◌}
use mathlib.Core.Bool.{true, ◌&&◌}
use mathlib.Core.List.{List}
use Prim.Native.Nat.{ℕ, ◌+◌, ◌<◌, ◌≤◌}
use native.Mathlib.Omega.{arith}
use Rattle.text.proofs.Ways.{and_first, and_second}
use Rattle.numerals.specs.Numerals.{spell}
use Rattle.layout.specs.declared.Edition.{Edition}
use Rattle.layout.specs.Editions.{last_of}
use Rattle.layout.specs.Page.{width_of, text_of, legal}
use Rattle.layout.proofs.Elements.{last_below}
use Rattle.reading.specs.declared.Reading.{Reading}
use Rattle.reading.specs.Readings.{lead, item_of, reading_of}
use Rattle.reading.proofs.ReadingLaws.{lead_is, lead_of_lead}
use Rattle.spelling.specs.Same.{same}
use Rattle.spelling.specs.Spelled.{numeral_for, given, record_of}
use Rattle.spelling.proofs.SameLaws.{same_equal}
use Rattle.spelling.proofs.RecordLaws.{record_text}
use Rattle.writing.specs.Written.{writes}

module _ (ed : Edition) (rs : List Reading) (each : (e : ℕ) → 1 ≤ e → e < 1 + 101 → writes ed rs (record_of ed rs) e ≡ true) where
  both : (e : ℕ) → 1 ≤ e → e ≤ 101 → (legal ed (record_of ed rs) e && same (reading_of ed (record_of ed rs) e) (given rs e)) ≡ true
  unfolding writes
  both e h l = each e h (omega arith)

  pub every_legal : (e : ℕ) → 1 ≤ e → e ≤ last_of ed → legal ed (record_of ed rs) e ≡ true
  every_legal e h l = and_first _ _ (both e h (omega (arith, last_below ed)))

  pub as_given : (e : ℕ) → 1 ≤ e → e ≤ 101 → reading_of ed (record_of ed rs) e ≡ given rs e
  as_given e h l = same_equal _ _ (and_second (legal ed (record_of ed rs) e) _ (both e h l))

  pub own_text : (e : ℕ) → 1 ≤ e → e ≤ last_of ed → text_of e (record_of ed rs) ≡ spell (width_of e) (numeral_for ed e (reading_of ed (record_of ed rs) e))
  own_text e h l =
      let low = lead_is e h in
      let reads : given rs (lead e) ≡ reading_of ed (record_of ed rs) e =
      sym (as_given (lead e) low.low (omega (arith, low.high, last_below ed))) ∙ ap (item_of ed (record_of ed rs)) (lead_of_lead e) in
      record_text ed rs e h l ∙ ap (λ (r : Reading). spell (width_of e) (numeral_for ed e r)) reads
