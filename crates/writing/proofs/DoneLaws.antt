-- What writing comes to says: the lowest element that is not written, the lowest tie that is broken, or that everything was kept. Assumes nothing.
use mathlib.Core.Path.{◌≡◌, ap, ◌∙◌}
use mathlib.Core.Bool.{true, false}
use mathlib.Core.List.{List}
use Prim.Native.Nat.{ℕ, ◌+◌, ◌<◌, ◌≤◌}
use native.Mathlib.Omega.{arith}
use borrow.Author.Tests.{ne_eqb}
use Rattle.text.proofs.First.{Looked, looked, nowhere, lowest, Found, at_none, at_lowest, none_of_all}
use Rattle.layout.specs.declared.Edition.{Edition}
use Rattle.refusals.specs.declared.Refusal.TheVariants.{Illegal, Broken, Room}
use Rattle.refusals.specs.Verdicts.{refused_at}
use Rattle.refusals.specs.Lent.{Call, refusing, writing, in_room, Quiet, quiet}
use Rattle.refusals.proofs.LentLaws.{has_room, lacks_room}
use Rattle.layout.specs.Editions.{length_of}
use Rattle.ties.specs.Ties.{tie}
use Rattle.ties.proofs.TieLaws.{lowest_broken, is_lowest}
use Rattle.reading.specs.declared.Reading.{Reading}
use Rattle.reading.specs.Readings.{lead}
use Rattle.spelling.specs.Spelled.{record_of}
use Rattle.spelling.proofs.RecordLaws.{record_long}
use Rattle.writing.specs.Fits.{TiedBelow, AllTied}
use Rattle.writing.specs.Written.{writes, written_in}

module _ (ed : Edition) (rs : List Reading) where
  -- every element below m is written
  abbrev pub WritesBelow : ℕ → Type 0
  WritesBelow m = (e : ℕ) → 1 ≤ e → e < m → writes ed rs (record_of ed rs) e ≡ true

  pub data Judged : Call Quiet → Type 0 where
    unwritable : (e : ℕ) → 1 ≤ e → e < 1 + 101 → writes ed rs (record_of ed rs) e ≡ false → WritesBelow e → Judged (refusing (Illegal (lead e)))
    breaking : WritesBelow (1 + 101) → (k : ℕ) → tie ed (record_of ed rs) k ≡ false → TiedBelow ed rs k → Judged (refusing (Broken k))
    kept : WritesBelow (1 + 101) → AllTied ed rs → Judged (writing quiet (record_of ed rs))

  pub judged : Judged (written_in ed rs)
  unfolding written_in
  judged = by _ (looked (writes ed rs (record_of ed rs)) 1 101) _ (lowest_broken ed (record_of ed rs))
    where
      by : (p : ℕ) → Looked (writes ed rs (record_of ed rs)) 1 101 p → (q : ℕ) → Found (tie ed (record_of ed rs)) q →
          Judged (refused_at refusing (λ e. Illegal (lead e)) p (refused_at refusing Broken q (writing quiet (record_of ed rs))))
      by p (nowhere f) q (at_none g) = kept f g
      by p (nowhere f) q (at_lowest m a x g) = rw (ne_eqb m 0 (λ z. omega arith)) (breaking f m x g)
      by p (lowest m a b x f) q l = rw (ne_eqb m 0 (λ z. omega arith)) (unwritable m a b x f)

  -- a record that was written, and what it takes to write one
  pub done_means : {a : Quiet} {bytes : List ℕ} → written_in ed rs ≡ writing a bytes → (WritesBelow (1 + 101) × AllTied ed rs) × (bytes ≡ record_of ed rs)
  done_means {a} {bytes} e = by _ judged e
    where
      by : (c : Call Quiet) → Judged c → c ≡ writing a bytes → (WritesBelow (1 + 101) × AllTied ed rs) × (bytes ≡ record_of ed rs)
      by c (unwritable m l h x f) e = let z : ◌≡◌ {A = ℕ} 0 1 = cc in absurd (omega arith)
      by c (breaking f m x g) e = let z : ◌≡◌ {A = ℕ} 0 1 = cc in absurd (omega arith)
      by c (kept f g) e = ((f, g), cc)

  pub means_done : WritesBelow (1 + 101) → AllTied ed rs → written_in ed rs ≡ writing quiet (record_of ed rs)
  unfolding written_in
  means_done f g = rw (none_of_all (writes ed rs (record_of ed rs)) 101 f, is_lowest ed (record_of ed rs) 0 (at_none g))

  -- the verdict where the readings can be written: it goes by the room
  pub fine_in : (room : ℕ) → WritesBelow (1 + 101) → AllTied ed rs → length_of ed ≤ room → in_room room (written_in ed rs) ≡ writing quiet (record_of ed rs)
  fine_in room f g h = ap (in_room room) (means_done f g) ∙ has_room quiet (record_of ed rs) room (omega (arith, record_long ed rs))

  pub cramped_in : (room : ℕ) → WritesBelow (1 + 101) → AllTied ed rs → room < length_of ed → in_room room (written_in ed rs) ≡ refusing Room
  cramped_in room f g h = ap (in_room room) (means_done f g) ∙ lacks_room quiet (record_of ed rs) room (omega (arith, record_long ed rs))
