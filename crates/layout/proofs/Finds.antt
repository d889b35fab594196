-- `find` over the places from a to b, both counted in, answers the lowest at which a test fails. Assumes nothing.
use Rattle.std.proofs.Common.{ℕ, zero, suc, ◌+◌, ◌-◌, ◌≤◌, ◌≡◌, Bool, true, false, not, Option, None, Some, List, Bor, arith, find}
use Rattle.std.proofs.lemmas.Iterator.{YieldsList}
use Rattle.std.proofs.lemmas.Iterator.Search.{find_from_yields_List}
use Rattle.std.specs.Iterator.{AlwaysYields, YieldsThen}
use Rattle.std.specs.Fn.{CalledAt}
use denote.Param.Members.{Mut}
use Rattle.std.specs.Option.{option_map, MatchOption}
use Rattle.std.specs.List.{range_with_len, FoldsTo}
use Rattle.std.specs.Range.{range_inclusive_start, range_inclusive_end, range_inclusive_exhausted, range_inclusive_left, range_inclusive_steps}
use Rattle.std.specs.declared.ops.RangeInclusive.{RangeInclusive}
use mathlib.Core.Path.{refl, ap, ◌∙◌}
use native.Mathlib.Numerals.{add-one}
use Rattle.text.specs.First.{first_from, nonzero}
use Rattle.text.proofs.First.{some_nonzero}
use Rattle.text.proofs.Ways.{decide}

abbrev gap : ℕ → ℕ → ℕ
gap x y = y - x

abbrev steps : RangeInclusive ℕ → Option ℕ → RangeInclusive ℕ → Type 0
steps = range_inclusive_steps gap (λ x y. y ≡ x + 1)

spent : (s : RangeInclusive ℕ) → range_inclusive_exhausted s ≡ true → range_inclusive_left gap s ≡ 0
spent s e = rw e

listed : (n a : ℕ) (s : RangeInclusive ℕ) → range_inclusive_left gap s ≡ n → (range_inclusive_exhausted s ≡ false → range_inclusive_start s ≡ a) → AlwaysYields steps (λ x. x) s (range_with_len a n)
listed zero a s z f = λ x j e. absurd (omega (arith, e.1.1, z))
listed (suc n) a s z f =
    let here : range_inclusive_start s ≡ a = decide (range_inclusive_exhausted s) (λ e. absurd (omega (arith, spent s e, z))) f in
    (λ j e. absurd (omega (arith, e.1.0, z)), λ x j e. (e.1.0 ∙ here, listed n (a + 1) j (omega (arith, e.1.1, z)) (λ g. e.1.2 g ∙ ap (λ (k : ℕ). k + 1) here)))

up_to : {s : RangeInclusive ℕ} (a b : ℕ) → range_inclusive_start s ≡ a → range_inclusive_end s ≡ b → range_inclusive_exhausted s ≡ false → YieldsList steps (λ x. x) s (range_with_len a (b + 1 - a))
up_to {s} a b f g h = record { runs = listed (b + 1 - a) a s (rw h (omega (arith, f, g))) (λ _. f) }

lowest : (p : ℕ → Bool) (k n : ℕ) → 1 ≤ k → find (λ j. not (p j)) (range_with_len k n) ≡ nonzero (first_from p k n)
unfolding first_from
lowest p k zero h = refl
lowest p k (suc n) h = decide (p k) (λ e. rw (e, add-one) (lowest p (suc k) n (omega arith))) (λ e. rw e (some_nonzero k h))

answered : (r : Option ℕ) → r ≡ option_map (λ x. x) r
answered None = refl
answered (Some x) = refl

-- said of what a call of `find` ensures, whose closure asks p
pub lowest_found : {F : Type 0} {g : Mut F (Bor ℕ × Unit {0}) Bool} {s : RangeInclusive ℕ} (p : ℕ → Bool) (a b : ℕ) (u : RangeInclusive ℕ) (f : F) (r : Option ℕ) → 1 ≤ a →
    range_inclusive_start s ≡ a → range_inclusive_end s ≡ b → range_inclusive_exhausted s ≡ false →
    (xs : List ℕ) × (j : F) × YieldsThen steps s xs r u × FoldsTo (λ p x q. CalledAt g p x false q) f xs j × MatchOption r (Unit {0}) (λ x. (h : F) × CalledAt g j x true h) →
    ((x : ℕ) (t : Bool) (q : F) → CalledAt g f x t q → (q ≡ f) × (t ≡ not (p x))) → r ≡ nonzero (first_from p a (b + 1 - a))
lowest_found p a b u f r l h i k ran asks = answered r ∙ find_from_yields_List (λ j. not (p j)) u f r ran (up_to a b h i k) asks ∙ lowest p a (b + 1 - a) l
