-- The two words are those of the elements lost. Assumes nothing.
use mathlib.Core.Path.{◌≡◌, refl, sym, ap, ap₂, ◌∙◌}
use mathlib.Core.Bool.{Bool, true, false}
use mathlib.Core.List.{List}
use mathlib.Core.Logic.{◌⊎◌, inl, inr}
use Prim.Native.Nat.{ℕ, ◌+◌, ◌<◌, ◌≤◌}
use native.Mathlib.Omega.{arith}
use borrow.Author.Tests.{leb-true, leb-false}
use lib.Bits.{bit_or}
use lib.Dec.{leb}
use lib.ListN.{length, get_or-eq_default}
use Rattle.text.specs.Bytes.{every}
use Rattle.element_sets.specs.ElementSets.{bits, element_set, set_of}
use Rattle.element_sets.proofs.Listed.{same_word, no_word}
use Rattle.element_sets.proofs.Ways.{up_to_or_past}
use Rattle.layout.specs.declared.Edition.{Edition}
use Rattle.layout.specs.declared.Edition.TheVariants.{One}
use Rattle.layout.specs.Editions.{length_of, last_of}
use Rattle.layout.specs.Page.{start_of, text_of, first_byte, legal_text}
use Rattle.layout.proofs.Beyond.{last_above, text_none}
use Rattle.layout.proofs.Columns.{start_rises, filled}
use Rattle.layout.proofs.RecordLaws.{ends}
use Rattle.places.specs.Column12.{is_first, crosses}
use Rattle.meanings.specs.Kept.{lost_text, lost_at}
use Rattle.blanking.specs.LostBytes.{Spot, in_element, changes, leaves, codes_lost, country_lost, version_lost, flags_lost, later_lost, shared_lost, lost_in, named}
use Rattle.blanking.proofs.Blanked.{or_none}
use Rattle.blanking.proofs.Steps.{and_none, codes_off, country_off, version_off, flags_off, later_off, in_later}
use Rattle.blanking.proofs.Lost.{first_lost}
use Rattle.blanking.proofs.NameLaws.{joined}

-- what is not there is not lost
later_zero : (first x : Bool) (at : Spot) → later_lost first x at 0 ≡ false
unfolding later_lost
later_zero true x at = rw (and_none (at 86 93), and_none (at 94 101))
later_zero false x at = rw (and_none (at 86 86), and_none (at 94 101)) (and_none x)

pub last_none : (xs : List ℕ) (first x : Bool) → length xs ≡ 131 → 0 ≡ bits (named (later_lost first x) xs) 65 37
last_none xs first x h = sym (same_word (named (later_lost first x) xs) (λ e. false) 65 37 (λ e l m. by e (up_to_or_past 86 e)) ∙ no_word 65 37)
  where
    by : (e : ℕ) → (86 ≤ e) ⊎ (e < 86) → named (later_lost first x) xs e ≡ false
    by e (inl l) = ap (later_lost first x (in_element e)) (get_or-eq_default xs 0 (omega (arith, filled One, start_rises 86 e l))) ∙ later_zero first x (in_element e)
    by e (inr l) = later_off e (first_byte e xs) first x l

-- in edition 1 whatever is written is lost, in the others what the step loses
module _ (to : Edition) (x : Bool) where
  pub in_none : is_first to ≡ true → (xs : List ℕ) (v : ℕ) → v ≡ bits (named (later_lost true false) xs) 65 37 → v ≡ bits (named (later_lost (is_first to) x) xs) 65 37
  unfolding later_lost
  in_none f xs v g = g ∙ same_word _ _ 65 37 (λ e l h. rw f)

  pub in_some : (y : Bool) → is_first to ≡ false → y ≡ x → (xs : List ℕ) (v : ℕ) → v ≡ bits (named (later_lost false y) xs) 65 37 → v ≡ bits (named (later_lost (is_first to) x) xs) 65 37
  in_some y f e xs v g = g ∙ same_word _ _ 65 37 (λ k l h. rw (f, e))

module _ (from to : Edition) (xs : List ℕ) (full : length xs ≡ length_of from) (each : (e : ℕ) → 1 ≤ e → e ≤ last_of from → legal_text from e (text_of e xs) ≡ true) where
  lost_here : (e : ℕ) → 1 ≤ e → e ≤ 101 → lost_at from to xs e ≡ named (lost_in from to) xs e
  unfolding lost_text every
  lost_here e l h = by (leb e (last_of from)) refl
    where
      by : (x : Bool) → leb e (last_of from) ≡ x → lost_at from to xs e ≡ named (lost_in from to) xs e
      by true k = let own = leb-true e (last_of from) k in first_lost from to xs e l h (omega (arith, ends from e own)) (each e l own)
      by false k =
          let past = leb-false e (last_of from) k in
          let after : length xs ≤ start_of e = omega (arith, filled from, start_rises (last_of from + 1) e (omega arith)) in
          rw (text_none from xs full e past)
          (sym (in_later e (first_byte e xs) from to (omega (arith, last_above from)) ∙ ap (later_lost (is_first to) (leaves from to) (in_element e)) (get_or-eq_default xs 0 after) ∙ later_zero (is_first to) (leaves from to) (in_element e)))

  low_word : (codes country version : ℕ) → codes ≡ bits (named (codes_lost (changes from to)) xs) 1 64 → country ≡ bits (named (country_lost (crosses from to)) xs) 1 64 → version ≡ bits (named (version_lost (leaves from to)) xs) 1 64 →
      bit_or (bit_or codes country) version ≡ bits (lost_at from to xs) 1 64
  unfolding lost_in shared_lost
  low_word codes country version p q r =
      joined _ _ 1 64 _ _ (joined _ _ 1 64 _ _ p q) r ∙
      same_word _ (lost_at from to xs) 1 64
      (λ e l h. sym (lost_here e l (omega arith) ∙ rw (flags_off e (first_byte e xs) (leaves from to) (inl (omega arith)), later_off e (first_byte e xs) (is_first to) (leaves from to) (omega arith)) (or_none _ ∙ or_none _)))

  high_word : (flags last : ℕ) → flags ≡ bits (named (flags_lost (leaves from to)) xs) 65 37 → last ≡ bits (named (later_lost (is_first to) (leaves from to)) xs) 65 37 → bit_or flags last ≡ bits (lost_at from to xs) 65 37
  unfolding lost_in shared_lost
  high_word flags last p q =
      joined _ _ 65 37 _ _ p q ∙
      same_word _ (lost_at from to xs) 65 37
      (λ e l h. sym (lost_here e (omega arith) (omega arith) ∙ rw (codes_off e (first_byte e xs) (changes from to) (inr (omega arith)), country_off e (first_byte e xs) (crosses from to) (inr (omega arith)), version_off e (first_byte e xs) (leaves from to) (inr (omega arith)))))

  pub all_named : (codes country version flags last : ℕ) → codes ≡ bits (named (codes_lost (changes from to)) xs) 1 64 → country ≡ bits (named (country_lost (crosses from to)) xs) 1 64 →
      version ≡ bits (named (version_lost (leaves from to)) xs) 1 64 → flags ≡ bits (named (flags_lost (leaves from to)) xs) 65 37 → last ≡ bits (named (later_lost (is_first to) (leaves from to)) xs) 65 37 →
      element_set (bit_or (bit_or codes country) version) (bit_or flags last) ≡ set_of (lost_at from to xs)
  unfolding set_of
  all_named codes country version flags last p q r s t = ap₂ element_set (low_word codes country version p q r) (high_word flags last s t)
