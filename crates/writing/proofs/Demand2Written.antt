-- Demand 2: what was written is accepted, and each of its elements reads as the reading that was given. Assumes nothing.
use Rattle.std.proofs.Common.{None, Ok, Option, Some}
use mathlib.Core.Path.{◌≡◌, refl, ap, ◌∙◌}
use mathlib.Core.List.{List}
use Prim.Native.Nat.{ℕ, ◌+◌, ◌≤◌}
use native.Mathlib.Omega.{arith}
use lib.ListN.{length, take, drop}
use lib.Seq.{take_at, drop_at}
use Rattle.layout.specs.declared.Edition.{Edition}
use Rattle.refusals.specs.Lent.{writing, in_room, verdict_in, overwritten, left_by, Quiet}
use Rattle.refusals.proofs.LentLaws.{has_room, Wrote, fine_means}
use Rattle.layout.specs.Editions.{length_of, asked}
use Rattle.checking.specs.Check.{checked}
use Rattle.checking.specs.Acceptable.{Acceptable}
use Rattle.checking.proofs.LegalLaws.{legal_record}
use Rattle.checking.proofs.Demand2Acceptance.{accepted_exactly}
use Rattle.reading.specs.declared.Reading.{Reading}
use Rattle.reading.specs.Answers.{read_as, read_of}
use Rattle.reading.proofs.Demand2Readings.{reads_each}
use Rattle.spelling.specs.Spelled.{given, record_of}
use Rattle.spelling.proofs.RecordLaws.{record_long}
use Rattle.writing.specs.Fits.{AllTied}
use Rattle.writing.specs.Written.{written_in, written_as, written}
use Rattle.writing.proofs.EachLaws.{every_legal, as_given}
use Rattle.writing.proofs.DoneLaws.{WritesBelow, done_means}

acceptable : (ed : Edition) (rs : List Reading) → WritesBelow ed rs (1 + 101) → AllTied ed rs → Acceptable ed (record_of ed rs)
acceptable ed rs each all = legal_record ed (record_of ed rs) (record_long ed rs) (every_legal ed rs each) all

-- check accepts what was written, and each element of it reads as the reading that was given
module _ (ed : Edition) (rs : List Reading) {a : Quiet} {bytes : List ℕ} (done : written_in ed rs ≡ writing a bytes) where
  is_record : bytes ≡ record_of ed rs
  is_record = (done_means ed rs done).1

  pub written_is_accepted : checked bytes ≡ Ok ed
  written_is_accepted = let w = (done_means ed rs done).0 in rw is_record ((accepted_exactly (record_of ed rs) ed).1 (acceptable ed rs w.0 w.1))

  pub written_reads_as_given : (e : ℕ) → 1 ≤ e → e ≤ 101 → read_as (read_of bytes).entries e ≡ given rs e
  written_reads_as_given e h l = reads_each ed bytes written_is_accepted e h l ∙ rw is_record (as_given ed rs (done_means ed rs done).0.0 e h l)

  pub written_long : length bytes ≡ length_of ed
  written_long = rw is_record (record_long ed rs)

-- What a call that succeeds leaves in the lent buffer: a record in front, and behind it what stood there.
abbrev pub after : List Reading → ℕ → List ℕ → List ℕ
after rs edition before = left_by (written rs edition) before

abbrev pub front : Edition → List Reading → ℕ → List ℕ → List ℕ
front ed rs edition before = take (length_of ed) (after rs edition before)

pub record Success (rs : List Reading) (edition : ℕ) (before : List ℕ) : Type 0 where
  pub held : Edition
  pub names : asked edition ≡ Some held
  pub accepted : checked (front held rs edition before) ≡ Ok held
  pub reads : (e : ℕ) → 1 ≤ e → e ≤ 101 → read_as (read_of (front held rs edition before)).entries e ≡ given rs e
  pub rest : drop (length_of held) (after rs edition before) ≡ drop (length_of held) before

module _ (ed : Edition) (rs : List Reading) (edition : ℕ) (before : List ℕ) (names : asked edition ≡ Some ed) (w : Wrote (written_in ed rs) (length before)) where
  filled : after rs edition before ≡ overwritten w.bytes before
  unfolding written_as
  filled = rw (names, w.is, has_room w.says w.bytes (length before) w.fits)

  is_front : front ed rs edition before ≡ w.bytes
  is_front = ap (take (length_of ed)) filled ∙ take_at w.bytes (drop (length w.bytes) before) (length_of ed) (written_long ed rs w.is)

  succeeds : Success rs edition before
  succeeds = record {
    held = ed;
    names = names;
    accepted = ap checked is_front ∙ written_is_accepted ed rs w.is;
    reads = λ e l h. ap (λ (xs : List ℕ). read_as (read_of xs).entries e) is_front ∙ written_reads_as_given ed rs w.is e l h;
    rest =
        ap (drop (length_of ed)) filled ∙ drop_at w.bytes (drop (length w.bytes) before) (length_of ed) (written_long ed rs w.is) ∙
        ap (λ (n : ℕ). drop n before) (written_long ed rs w.is);
  }

pub success : (rs : List Reading) (edition : ℕ) (before : List ℕ) → verdict_in (length before) (written rs edition) ≡ Ok tt → Success rs edition before
unfolding written_as in_room
success rs edition before fine = by (asked edition) refl fine
  where
    by : (n : Option Edition) → asked edition ≡ n → verdict_in (length before) (written_as n rs) ≡ Ok tt → Success rs edition before
    by None e f = let z : ◌≡◌ {A = ℕ} 0 1 = cc in absurd (omega arith)
    by (Some ed) e f = succeeds ed rs edition before e (fine_means (length before) (written_in ed rs) f)
