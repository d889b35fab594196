-- Request 6: one call checks and reads. What it answers fits the record, and two answers that fit are equal; what it says of the record is what a check says.
-- Assumes nothing.
use Rattle.std.proofs.Common.{Err, Ok}
use mathlib.Core.Path.{◌≡◌, refl, sym, ap, ◌∙◌}
use mathlib.Core.List.{List}
use Prim.Native.Nat.{ℕ, ◌+◌, ◌≤◌}
use native.Mathlib.Omega.{arith}
use lib.ListN.{length}
use lib.Seq.{ext_get_or}
use Rattle.checking.specs.Check.{Answer}
use Rattle.checking.specs.Check.{checked}
use Rattle.checking.proofs.Demand1Refusals as Checks
use Rattle.reading.specs.declared.Reading.TheVariants.{Missing}
use Rattle.reading.specs.declared.Readings.{Readings}
use Rattle.reading.specs.Answers.{read_after, read_as, read_of}
use Rattle.reading.specs.Fits.{Fits}
use Rattle.reading.proofs.EntryLaws.{entries_long, held_next, holding}
use Rattle.reading.proofs.Demand2Readings.{reads_each, reads_refused}

-- the answer is the check's
pub checks : (xs : List ℕ) → (read_of xs).answer ≡ checked xs
unfolding read_after
checks xs = by (checked xs)
  where
    by : (a : Answer) → (read_after a xs).answer ≡ a
    by (Ok ed) = refl
    by (Err r) = refl

-- and there are always 101 entries
pub always_101 : (xs : List ℕ) → length (read_of xs).entries ≡ 101
unfolding read_after
always_101 xs = by (checked xs)
  where
    by : (a : Answer) → length (read_after a xs).entries ≡ 101
    by (Ok ed) = entries_long _ 1 101
    by (Err r) = entries_long _ 1 101

-- What is answered fits.
pub fits : (xs : List ℕ) → Fits xs (read_of xs)
fits xs = record {
  checks = rw (checks xs) (Checks.fits xs);
  full = always_101 xs;
  reads = λ ed a. reads_each ed xs (sym (checks xs) ∙ a);
  none = λ r a. reads_refused xs r (sym (checks xs) ∙ a);
}

-- Two answers that fit are equal.
pub only_one : (xs : List ℕ) (a b : Readings) → Fits xs a → Fits xs b → a ≡ b
only_one xs a b f g = same_answer a.answer refl
  where
    verdict : a.answer ≡ b.answer
    verdict = Checks.only_one xs a.answer b.answer f.checks g.checks

    -- entries that read the same are the same
    row : ((e : ℕ) → 1 ≤ e → e ≤ 101 → read_as a.entries e ≡ read_as b.entries e) → a ≡ b
    row h =
        let es : a.entries ≡ b.entries = ext_get_or Missing a.entries b.entries (f.full ∙ sym g.full)
        (λ k l. held_next a.entries k ∙ h (1 + k) (omega arith) (omega (arith, f.full)) ∙ sym (held_next b.entries k)) in
        ap (λ (v : Answer). holding v a.entries) verdict ∙ ap (holding b.answer) es

    same_answer : (v : Answer) → a.answer ≡ v → a ≡ b
    same_answer (Ok ed) p = row (λ e l h. f.reads ed p e l h ∙ sym (g.reads ed (sym verdict ∙ p) e l h))
    same_answer (Err r) p = row (λ e l h. f.none r p e l h ∙ sym (g.none r (sym verdict ∙ p) e l h))
