-- What each way through `write` comes to, and what it leaves in the lent buffer. Assumes nothing.
use Rattle.std.proofs.Common.{Some, None}
use mathlib.Core.Path.{◌≡◌, ap, ◌∙◌}
use mathlib.Core.List.{List, ◌++◌}
use Prim.Native.Nat.{ℕ, ◌<◌, ◌≤◌}
use native.Mathlib.Omega.{arith}
use borrow.Author.Tests.{ne_eqb}
use lib.ListN.{length, take, drop}
use Rattle.text.specs.First.{first_of, nonzero}
use Rattle.text.proofs.First.{nonzero_is, nonzero_some, nonzero_none}
use Rattle.text.proofs.Parts.{front_length}
use Rattle.layout.specs.declared.Edition.{Edition}
use Rattle.refusals.specs.declared.Refusal.TheVariants.{Illegal, Broken}
use Rattle.refusals.specs.Lent.{refusing, writing, overwritten, quiet}
use Rattle.layout.specs.Editions.{length_of}
use Rattle.layout.specs.Records.{record_from}
use Rattle.layout.proofs.RecordLaws.{most}
use Rattle.ties.specs.Ties.{first_broken}
use Rattle.reading.specs.declared.Reading.{Reading}
use Rattle.reading.specs.Readings.{lead}
use Rattle.spelling.specs.Spelled.{row_for, record_of}
use Rattle.spelling.proofs.RecordLaws.{record_long}
use Rattle.writing.specs.Written.{writes, written_in}

-- a row that was spelled, and the length of the edition's records
pub record Spelled (ed : Edition) (rs : List Reading) (row : List ℕ) (n : ℕ) : Type 0 where
  pub texts : row ≡ row_for ed rs 1 101
  pub long : length row ≡ 159
  pub cut : n ≡ length_of ed

abbrev pub spelled : {ed : Edition} {rs : List Reading} {row : List ℕ} {n : ℕ} → row ≡ row_for ed rs 1 101 → length row ≡ 159 → n ≡ length_of ed → Spelled ed rs row n
spelled f l g = record { texts = f; long = l; cut = g }

-- the front of the row is the record
module _ {ed : Edition} {rs : List Reading} {row : List ℕ} {n : ℕ} (s : Spelled ed rs row n) where
  pub is_record : take n row ≡ record_of ed rs
  unfolding record_of row_for record_from
  is_record = rw (s.texts, s.cut)

  pub within_row : n ≤ length row
  within_row = omega (arith, most ed, s.long, s.cut)

  pub record_length : n ≡ length (take n row)
  record_length = front_length n row within_row

  -- it is as long as the edition's records are
  pub fitting : {room : ℕ} → n ≤ room → length (record_of ed rs) ≤ room
  fitting h = omega (arith, s.cut, record_long ed rs)

  pub not_fitting : {room : ℕ} → room < n → room < length (record_of ed rs)
  not_fitting h = omega (arith, s.cut, record_long ed rs)

  -- what a copy of it leaves in a buffer
  pub filled_up : (before after : List ℕ) → after ≡ take n row ++ drop (length (take n row)) before → after ≡ overwritten (record_of ed rs) before
  filled_up before after h = h ∙ ap (λ (t : List ℕ). overwritten t before) is_record

-- what writing comes to, by the first test that fails
module _ (ed : Edition) (rs : List Reading) (xs : List ℕ) (x : xs ≡ record_of ed rs) where
  pub not_writable : (e : ℕ) → nonzero (first_of 101 (writes ed rs xs)) ≡ Some e → (l : ℕ) → l ≡ lead e → written_in ed rs ≡ refusing (Illegal l)
  unfolding written_in
  not_writable e p l f = rw (← x, nonzero_is _ _ p, ne_eqb e 0 (λ z. omega (arith, nonzero_some _ _ p)), f)

  module _ (z : nonzero (first_of 101 (writes ed rs xs)) ≡ None) where
    pub breaks : (k : ℕ) → nonzero (first_broken ed xs) ≡ Some k → written_in ed rs ≡ refusing (Broken k)
    unfolding written_in
    breaks k q = rw (← x, nonzero_none _ z, nonzero_is _ _ q, ne_eqb k 0 (λ e. omega (arith, nonzero_some _ _ q)))

    pub writable : nonzero (first_broken ed xs) ≡ None → written_in ed rs ≡ writing quiet (record_of ed rs)
    unfolding written_in
    writable q = rw (← x, nonzero_none _ z, nonzero_none _ q)
