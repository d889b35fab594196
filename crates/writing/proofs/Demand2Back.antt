-- Demand 2: reading a record and writing it back gives the same characters. Assumes nothing.
use Rattle.std.proofs.Common.{Ok, Some}
use mathlib.Core.Path.{◌≡◌, ap, ◌∙◌}
use mathlib.Core.Bool.{true}
use mathlib.Core.List.{List}
use Prim.Native.Nat.{ℕ, ◌≤◌}
use native.Mathlib.Omega.{arith}
use lib.ListN.{length}
use Rattle.numerals.specs.Numerals.{spell}
use Rattle.layout.specs.declared.Edition.{Edition}
use Rattle.refusals.specs.Lent.{writing, verdict_in, overwritten, left_by, quiet}
use Rattle.refusals.proofs.LentLaws.{has_room}
use Rattle.layout.specs.Editions.{asked, length_of, last_of}
use Rattle.layout.specs.Page.{width_of, text_of}
use Rattle.layout.proofs.Elements.{last_below}
use Rattle.ties.specs.Ties.{tie}
use Rattle.checking.specs.Check.{checked}
use Rattle.checking.specs.Acceptable.{Acceptable}
use Rattle.checking.proofs.Demand2Acceptance.{accepted_exactly}
use Rattle.checking.proofs.LegalLaws.{all_legal}
use Rattle.reading.specs.declared.Reading.{Reading}
use Rattle.reading.specs.Readings.{lead, item_of, reading_of}
use Rattle.reading.specs.Answers.{read_of}
use Rattle.reading.proofs.ReadingLaws.{lead_is, lead_of_lead}
use Rattle.reading.proofs.Demand2Readings.{reads_each}
use Rattle.spelling.specs.Spelled.{numeral_for, given, record_of}
use Rattle.spelling.proofs.SameLaws.{same_self}
use Rattle.spelling.proofs.RecordLaws.{record_long, record_text}
use Rattle.spelling.proofs.ElementLaws.{element_back}
use Rattle.writing.specs.Written.{writes, written_in, written_as, written}
use Rattle.layout.proofs.RecordLaws.{same_record}
use Rattle.writing.proofs.DoneLaws.{means_done}

-- readings that are what the elements of an acceptable record read as
module _ (ed : Edition) (xs : List ℕ) (a : Acceptable ed xs) (rs : List Reading) (as_read : (e : ℕ) → 1 ≤ e → e ≤ 101 → given rs e ≡ reading_of ed xs e) where
  text_back : (e : ℕ) → 1 ≤ e → e ≤ last_of ed → text_of e (record_of ed rs) ≡ text_of e xs
  text_back e l h =
      let low = lead_is e l in
      let reads : given rs (lead e) ≡ reading_of ed xs e =
      as_read (lead e) low.low (omega (arith, low.high, last_below ed)) ∙ ap (item_of ed xs) (lead_of_lead e) in
      record_text ed rs e l h ∙ ap (λ (r : Reading). spell (width_of e) (numeral_for ed e r)) reads ∙ element_back ed xs a e l h

  pub record_back : record_of ed rs ≡ xs
  record_back = same_record ed (record_of ed rs) xs text_back (record_long ed rs) a.full

  each_written : (e : ℕ) → 1 ≤ e → e ≤ 101 → writes ed rs xs e ≡ true
  unfolding writes
  each_written e l h = rw (all_legal ed xs a e l, as_read e l h) (same_self (reading_of ed xs e))

  -- written to its own edition, they are taken, and the record is the one that was read
  pub written_back_lem : written_in ed rs ≡ writing quiet xs
  written_back_lem =
      means_done ed rs
      (λ e l m. ap (λ (ys : List ℕ). writes ed rs ys e) record_back ∙ each_written e l (omega arith))
      (λ k. ap (λ (ys : List ℕ). tie ed ys k) record_back ∙ a.tied k)
      ∙ ap (writing quiet) record_back

-- the same of the calls: what is read of an accepted record is written to its own edition where there is room. The lent buffer then begins with the record's
-- characters, and the rest of it is what it was
pub read_and_written_back : (ed : Edition) (xs : List ℕ) → checked xs ≡ Ok ed →
    (edition : ℕ) → asked edition ≡ Some ed → (before : List ℕ) → length_of ed ≤ length before →
    (verdict_in (length before) (written (read_of xs).entries edition) ≡ Ok tt) × (left_by (written (read_of xs).entries edition) before ≡ overwritten xs before)
unfolding written_as
read_and_written_back ed xs accepted edition names before room =
    let a = (accepted_exactly xs ed).0 accepted in
    let back = written_back_lem ed xs a (read_of xs).entries (reads_each ed xs accepted) in
    let fits = has_room quiet xs (length before) (omega (arith, a.full)) in
    (rw (names, back, fits), rw (names, back, fits))
