-- Demand 2: write refuses with 6 and element e exactly where e is the lowest element whose reading no legal texts give. Assumes nothing.
use Rattle.std.proofs.Common.{Err}
use Rattle.layout.proofs.PartLaws.{coordinate_cases}
use mathlib.Core.Path.{◌≡◌, refl, sym, ap, ◌∙◌}
use mathlib.Core.Logic.{◌↔◌, ⊎_elim}
use mathlib.Core.Bool.{Bool, true, false, ◌&&◌, true≢false}
use mathlib.Core.List.{List}
use Prim.Native.Nat.{ℕ, ◌+◌, ◌-◌, ◌<◌, ◌≤◌}
use native.Mathlib.Nat.{le_refl, eq-or-lt_of_le}
use native.Mathlib.Omega.{arith}
use borrow.Author.Tests.{leb-true, leb-false}
use lib.Dec.{leb, lit≤}
use Rattle.text.proofs.Ways.{and_first, and_second}
use Rattle.layout.specs.declared.Edition.{Edition}
use Rattle.refusals.specs.declared.Refusal.TheVariants.{Illegal}
use Rattle.refusals.proofs.LentLaws.{by_its_rules}
use Rattle.refusals.specs.Lent.{in_room, verdict_in, Call, refusing, Quiet}
use Rattle.layout.specs.Page.{legal, is_coordinate, is_temperature, element, page}
use Rattle.reading.specs.declared.Reading.{Reading}
use Rattle.reading.specs.Readings.{lead, reading_of}
use Rattle.reading.proofs.ReadingLaws.{lead_is, lead_of_lead}
use Rattle.spelling.specs.Same.{same}
use Rattle.spelling.specs.Spelled.{given, record_of}
use Rattle.spelling.proofs.SameLaws.{same_equal}
use Rattle.spelling.proofs.RecordLaws.{record_long}
use Rattle.writing.specs.Written.{writes, written_in}
use Rattle.writing.specs.Givable.{Givable, Ungivable}
use Rattle.writing.proofs.GivableLaws.{given_writes}
use Rattle.writing.proofs.DoneLaws.{WritesBelow, Judged, unwritable, breaking, kept, judged}

-- a higher element shares its reading with no lower one than a lower element does
abbrev Rises : ℕ → Type 0
Rises f = (e : ℕ) → 1 ≤ e → e ≤ f → lead e ≤ lead f

lead_rises : (f : ℕ) → Rises f
unfolding is_coordinate is_temperature element page
lead_rises f = by (is_coordinate f) (is_temperature f) refl refl
  where
    under : (e k : ℕ) → 1 ≤ e → e ≤ k → lead e ≤ k
    under e k l h = let low = lead_is e l in omega (arith, low.high)

    seven : Rises 7
    seven e l h = ⊎_elim (λ z. rw z (lit≤ tt)) (λ m. under e 6 l (omega arith)) (eq-or-lt_of_le h)

    eight : Rises 8
    eight e l h = ⊎_elim (λ z. rw z (lit≤ tt)) (λ m. seven e l (omega arith)) (eq-or-lt_of_le h)

    by : (x y : Bool) → is_coordinate f ≡ x → is_temperature f ≡ y → Rises f
    by true y p q = coordinate_cases Rises f seven eight p
    by false true p q = λ e l h. ⊎_elim (λ z. rw z (le_refl (lead f))) (λ m. rw (p, q) (under e (f - 1) l (omega arith))) (eq-or-lt_of_le h)
    by false false p q = λ e l h. rw (p, q) (under e f l h)

module _ (ed : Edition) (rs : List Reading) where
  -- the record that is spelled is such a text, where the elements that share the reading are written
  pub by_record : (e : ℕ) → ((f : ℕ) → 1 ≤ f → f ≤ 101 → lead f ≡ lead e → writes ed rs (record_of ed rs) f ≡ true) → Givable ed rs e
  unfolding writes
  by_record e k = record {
    text = record_of ed rs;
    full = record_long ed rs;
    lawful = λ f l h s. and_first _ _ (both f l h s);
    reads = λ f l h s. same_equal _ _ (and_second (legal ed (record_of ed rs) f) _ (both f l h s));
  }
    where
      both : (f : ℕ) → 1 ≤ f → f ≤ 101 → lead f ≡ lead e → (legal ed (record_of ed rs) f && same (reading_of ed (record_of ed rs) f) (given rs f)) ≡ true
      both f l h s = k f l h s

  pub lowest_ungivable : (m : ℕ) → 1 ≤ m → m ≤ 101 → writes ed rs (record_of ed rs) m ≡ false → WritesBelow ed rs m → Ungivable ed rs (lead m)
  lowest_ungivable m l h x below = record {
    low = (lead_is m l).low;
    leads = lead_of_lead m;
    none = λ g. true≢false (sym (given_writes ed rs (lead m) g m l h (sym (lead_of_lead m))) ∙ x);
    earlier = λ j low less. by_record j (λ f a b s. below f a (sooner j low less f a s));
  }
    where
      sooner : (j : ℕ) → 1 ≤ j → j < lead m → (f : ℕ) → 1 ≤ f → lead f ≡ lead j → f < m
      sooner j low less f a s = by (leb m f) refl
        where
          by : (t : Bool) → leb m f ≡ t → f < m
          by true e = absurd (omega (arith, lead_rises f m l (leb-true _ _ e), (lead_is j low).high))
          by false e = leb-false _ _ e

  -- one element alone is the lowest
  only_one : (j k : ℕ) → Ungivable ed rs j → Ungivable ed rs k → j ≡ k
  only_one j k a b = by (leb j k) (leb k j) refl refl
    where
      by : (x y : Bool) → leb j k ≡ x → leb k j ≡ y → j ≡ k
      by true true p q = omega (arith, leb-true j k p, leb-true k j q)
      by false y p q = absurd (b.none (a.earlier k b.low (leb-false _ _ p)))
      by true false p q = absurd (a.none (b.earlier j a.low (leb-false _ _ q)))

  pub comes_to_6 : (k : ℕ) → (written_in ed rs ≡ refusing (Illegal k)) ↔ Ungivable ed rs k
  comes_to_6 k = (λ e. to _ (judged ed rs) e, λ u. from u _ (judged ed rs))
    where
      to : (c : Call Quiet) → Judged ed rs c → c ≡ refusing (Illegal k) → Ungivable ed rs k
      to c (unwritable m a b x below) e = let here : k ≡ lead m = cc in rw here (lowest_ungivable m a (omega arith) x below)
      to c (breaking f m x g) e = let z : ◌≡◌ {A = ℕ} 0 1 = cc in absurd (omega arith)
      to c (kept f g) e = let z : ◌≡◌ {A = ℕ} 0 1 = cc in absurd (omega arith)

      no_more : Ungivable ed rs k → WritesBelow ed rs (1 + 101) → ⊥
      no_more u f = u.none (by_record k (λ e l h s. f e l (omega arith)))

      from : Ungivable ed rs k → (c : Call Quiet) → Judged ed rs c → c ≡ refusing (Illegal k)
      from u c (unwritable m a b x below) = ap (λ (p : ℕ). refusing (Illegal p)) (only_one (lead m) k (lowest_ungivable m a (omega arith) x below) u)
      from u c (breaking f m x g) = absurd (no_more u f)
      from u c (kept f g) = absurd (no_more u f)

  -- the same of the verdict, whatever the room
  pub refused_exactly : (k room : ℕ) → (verdict_in room (written_in ed rs) ≡ Err (Illegal k)) ↔ Ungivable ed rs k
  unfolding in_room
  refused_exactly k room = (
    λ e. (comes_to_6 k).0 (by_its_rules room (Illegal k) (λ f. let z : ◌≡◌ {A = ℕ} 0 1 = cc in omega arith) (written_in ed rs) e),
    λ u. ap (verdict_in room) ((comes_to_6 k).1 u),
  )
