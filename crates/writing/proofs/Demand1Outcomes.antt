-- Demand 1: write answers the refusal that document 01 fixes, in its order, with its place; two verdicts that fit are equal; and a refused call writes nothing to
-- the lent buffer. Assumes nothing.
use Rattle.std.proofs.Common.{Err, None, Option, Some}
use mathlib.Core.Path.{◌≡◌, refl, sym, ap, ◌∙◌}
use mathlib.Core.Bool.{Bool, true, false}
use mathlib.Core.Logic.{◌↔◌}
use mathlib.Core.List.{List}
use Prim.Native.Nat.{ℕ, ◌+◌}
use native.Mathlib.Omega.{arith}
use borrow.Author.Tests.{ne_eqb, leb-true, leb-false}
use lib.Dec.{leb}
use lib.ListN.{length}
use Rattle.text.proofs.First.{none_of_all, at_lowest}
use Rattle.layout.specs.declared.Edition.{Edition}
use Rattle.refusals.specs.declared.Refusal.{Refusal}
use Rattle.refusals.specs.declared.Refusal.TheVariants.{Broken}
use Rattle.refusals.specs.Verdicts.{Verdict}
use Rattle.refusals.specs.Lent.{Call, refusing, in_room, verdict_of, verdict_in, left_by, Quiet, quiet}
use Rattle.refusals.proofs.LentLaws as Lent
use Rattle.refusals.proofs.LentLaws.{has_room, lacks_room}
use Rattle.layout.specs.Editions.{asked, length_of}
use Rattle.ties.specs.Ties.{tie}
use Rattle.ties.proofs.TieLaws.{broken_past_zero, is_lowest}
use Rattle.reading.specs.declared.Reading.{Reading}
use Rattle.spelling.specs.Spelled.{record_of}
use Rattle.spelling.proofs.RecordLaws.{record_long}
use Rattle.writing.specs.Written.{writes, written_in, written_as, written}
use Rattle.writing.specs.Fits.{AllGivable, TiedBelow, FitsIn, ungivable, broken, cramped, written as fully, Fits, unheld, held}
use Rattle.writing.proofs.GivableLaws.{given_writes}
use Rattle.writing.proofs.DoneLaws.{WritesBelow, Judged, unwritable, breaking, kept, judged, fine_in, cramped_in}
use Rattle.writing.proofs.Demand2Refused.{by_record, lowest_ungivable, comes_to_6}

module _ (ed : Edition) (rs : List Reading) (room : ℕ) where
  all_givable : WritesBelow ed rs (1 + 101) → AllGivable ed rs
  all_givable f e l = by_record ed rs e (λ k a b s. f k a (omega arith))

  all_written : AllGivable ed rs → WritesBelow ed rs (1 + 101)
  all_written g e l h = given_writes ed rs e (g e l) e l (omega arith) refl

  -- the verdict fits
  fits_in : FitsIn ed rs room (verdict_in room (written_in ed rs))
  unfolding in_room
  fits_in = by _ (judged ed rs) (leb (length_of ed) room) refl
    where
      by : (c : Call Quiet) → Judged ed rs c → (t : Bool) → leb (length_of ed) room ≡ t → FitsIn ed rs room (verdict_in room c)
      by c (unwritable m a b x f) t h = ungivable _ (lowest_ungivable ed rs m a (omega arith) x f)
      by c (breaking f m x g) t h = broken (all_givable f) m x g
      by c (kept f g) true h = rw (has_room quiet (record_of ed rs) room (omega (arith, record_long ed rs, leb-true (length_of ed) room h))) (fully (all_givable f) g (leb-true _ _ h))
      by c (kept f g) false h = rw (lacks_room quiet (record_of ed rs) room (omega (arith, record_long ed rs, leb-false (length_of ed) room h))) (cramped (all_givable f) g (leb-false _ _ h))

  -- and no other does
  breaks_at : (k : ℕ) → WritesBelow ed rs (1 + 101) → tie ed (record_of ed rs) k ≡ false → TiedBelow ed rs k → written_in ed rs ≡ refusing (Broken k)
  unfolding written_in
  breaks_at k w x f =
      let low = broken_past_zero ed (record_of ed rs) k x in
      rw (none_of_all (writes ed rs (record_of ed rs)) 101 w, is_lowest ed (record_of ed rs) k (at_lowest k low x f), ne_eqb k 0 (λ z. omega arith))

  is_the_one : (v : Verdict) → FitsIn ed rs room v → v ≡ verdict_in room (written_in ed rs)
  unfolding in_room
  is_the_one v (ungivable e u) = rw ((comes_to_6 ed rs e).1 u)
  is_the_one v (broken g k x f) = rw (breaks_at k (all_written g) x f)
  is_the_one v (cramped g f h) = ap verdict_of (sym (cramped_in ed rs room (all_written g) f h))
  is_the_one v (fully g f h) = ap verdict_of (sym (fine_in ed rs room (all_written g) f h))

-- what write answers fits, and nothing else does
pub fits_exactly : (rs : List Reading) (edition room : ℕ) (v : Verdict) → Fits rs edition room v ↔ (v ≡ verdict_in room (written rs edition))
unfolding written_as in_room
fits_exactly rs edition room v = (one v, λ e. rw e (answer (asked edition) refl))
  where
    one : (v : Verdict) → Fits rs edition room v → v ≡ verdict_in room (written rs edition)
    one v (unheld e) = rw e
    one v (held ed e p f) = rw e (is_the_one ed rs room v f)

    answer : (n : Option Edition) → asked edition ≡ n → Fits rs edition room (verdict_in room (written_as n rs))
    answer None e = unheld e
    answer (Some ed) e = held ed e (verdict_in room (written_in ed rs)) (fits_in ed rs room)

pub two_that_fit : (rs : List Reading) (edition room : ℕ) (v w : Verdict) → Fits rs edition room v → Fits rs edition room w → v ≡ w
two_that_fit rs edition room v w f g = (fits_exactly rs edition room v).0 f ∙ sym ((fits_exactly rs edition room w).0 g)

-- a refused call leaves the lent buffer as it was
pub refused_untouched : (rs : List Reading) (edition : ℕ) (before : List ℕ) (r : Refusal) → verdict_in (length before) (written rs edition) ≡ Err r → left_by (written rs edition) before ≡ before
refused_untouched rs edition before r e = Lent.refused_untouched (written rs edition) before r e
