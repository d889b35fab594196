-- Elements in which a step loses nothing, and those in which one step alone does; and that a column asks as its element does. Assumes nothing.
use mathlib.Core.Path.{◌≡◌, refl, sym, ap₂, ◌∙◌, fun_ext}
use mathlib.Core.Bool.{Bool, true, false, ◌&&◌}
use mathlib.Core.Logic.{◌⊎◌, inl, inr}
use Prim.Native.Nat.{ℕ, ◌+◌, ◌<◌, ◌≤◌}
use native.Mathlib.Omega.{arith}
use borrow.Author.Tests.{leb-true, leb-false, le-leb, lt-leb, lt-ltb, le-ltb}
use lib.Dec.{leb, ltb}
use Rattle.text.specs.Bytes.{between}
use Rattle.text.proofs.Ways.{decide}
use Rattle.layout.specs.declared.Edition.{Edition}
use Rattle.layout.specs.Page.{width_of, start_of}
use Rattle.layout.proofs.Columns.{start_next, start_rises}
use Rattle.places.specs.Column12.{is_first, crosses}
use Rattle.blanking.specs.LostBytes.{in_element, in_column, leaves, some, codes_lost, country_lost, version_lost, flags_lost, later_lost, shared_lost, lost_in}
use Rattle.blanking.proofs.Blanked.{or_none}

pub and_none : (x : Bool) → (x && false) ≡ false
and_none true = refl
and_none false = refl

-- a column of an element
module _ (e i : ℕ) (h : i < width_of e) where
  begins : (first : ℕ) → leb (start_of first) (start_of e + i) ≡ leb first e
  begins first =
      decide (leb first e) (λ t. le-leb (start_of first) (start_of e + i) (omega (arith, start_rises first e (leb-true first e t))) ∙ sym t)
      (λ t. lt-leb (start_of first) (start_of e + i) (omega (arith, start_next e, start_rises (e + 1) first (omega (arith, leb-false first e t)))) ∙ sym t)

  ends : (last : ℕ) → ltb (start_of e + i) (start_of (last + 1)) ≡ leb e last
  ends last =
      decide (leb e last) (λ t. lt-ltb (start_of e + i) (start_of (last + 1)) (omega (arith, start_next e, start_rises (e + 1) (last + 1) (omega (arith, leb-true e last t)))) ∙ sym t)
      (λ t. le-ltb (start_of e + i) (start_of (last + 1)) (omega (arith, start_rises (last + 1) e (omega (arith, leb-false e last t)))) ∙ sym t)

  pub same_spot : in_column (start_of e + i) ≡ in_element e
  same_spot = fun_ext (λ first. fun_ext (λ last. ap₂ ◌&&◌ (begins first) (ends last)))

-- before edition 1's last element nothing is lost of the others
pub later_none : (c b : ℕ) (first x : Bool) → c < start_of 86 → later_lost first x (in_column c) b ≡ false
unfolding later_lost
later_none c b true x h = rw (lt-leb (start_of 86) c h, lt-leb (start_of 94) c (omega (arith, start_rises 86 94 (omega arith))))
later_none c b false x h = rw (lt-leb (start_of 86) c h, lt-leb (start_of 94) c (omega (arith, start_rises 86 94 (omega arith)))) (and_none x)

module _ (e b : ℕ) where
  abbrev Apart : ℕ → ℕ → Type 0
  Apart i j = (e < i) ⊎ (j < e)

  pub within : (first last lo hi : ℕ) → first ≤ e → e ≤ last → some first last lo hi (in_element e) b ≡ between lo hi b
  within first last lo hi h l = rw (le-leb first e h, le-leb e last l)

  pub off : (first last lo hi i j : ℕ) → i ≤ first → last ≤ j → Apart i j → some first last lo hi (in_element e) b ≡ false
  off first last lo hi i j l m (inl h) = rw (lt-leb first e (omega arith))
  off first last lo hi i j l m (inr h) = rw (lt-leb e last (omega arith)) (none (leb first e))
    where
      none : (x : Bool) → ((x && false) && between lo hi b) ≡ false
      none true = refl
      none false = refl

  pub codes_off : (x : Bool) → Apart 40 41 → codes_lost x (in_element e) b ≡ false
  unfolding codes_lost
  codes_off x a = rw (off 40 40 49 49 40 41 (omega arith) (omega arith) a, off 40 40 52 52 40 41 (omega arith) (omega arith) a, off 41 41 52 52 40 41 (omega arith) (omega arith) a, off 41 41 55 57 40 41 (omega arith) (omega arith) a) (and_none x)

  pub country_off : (x : Bool) → Apart 43 43 → country_lost x (in_element e) b ≡ false
  unfolding country_lost
  country_off x a = rw (off 43 43 33 126 43 43 (omega arith) (omega arith) a) (and_none x)

  pub version_off : (x : Bool) → Apart 64 64 → version_lost x (in_element e) b ≡ false
  unfolding version_lost
  version_off x a = rw (off 64 64 57 57 64 64 (omega arith) (omega arith) a, off 64 64 65 65 64 64 (omega arith) (omega arith) a) (and_none x)

  pub flags_off : (x : Bool) → Apart 66 85 → flags_lost x (in_element e) b ≡ false
  unfolding flags_lost
  flags_off x a = rw (off 66 73 54 55 66 85 (omega arith) (omega arith) a, off 74 81 54 55 66 85 (omega arith) (omega arith) a, off 78 85 54 55 66 85 (omega arith) (omega arith) a) (and_none x)

  pub later_off : (first x : Bool) → e < 86 → later_lost first x (in_element e) b ≡ false
  unfolding later_lost
  later_off true x h = rw (off 86 93 33 126 86 101 (omega arith) (omega arith) (inl h), off 94 101 33 126 86 101 (omega arith) (omega arith) (inl h))
  later_off false x h = rw (off 86 86 54 54 86 101 (omega arith) (omega arith) (inl h), off 94 101 54 55 86 101 (omega arith) (omega arith) (inl h)) (and_none x)

  module _ (from to : Edition) where
    pub shared_off : Apart 40 41 → Apart 43 43 → Apart 64 64 → Apart 66 85 → shared_lost from to (in_element e) b ≡ false
    unfolding shared_lost
    shared_off p q r s = rw (codes_off _ p, country_off _ q, version_off _ r, flags_off _ s)

    -- the elements that no recast loses
    pub none_early : e ≤ 39 → lost_in from to (in_element e) b ≡ false
    unfolding lost_in
    none_early h = rw (shared_off (inl (omega arith)) (inl (omega arith)) (inl (omega arith)) (inl (omega arith)), later_off _ _ (omega arith))

    pub none_between : 42 ≤ e → e ≤ 63 → Apart 43 43 → lost_in from to (in_element e) b ≡ false
    unfolding lost_in
    none_between l h a = rw (shared_off (inr l) a (inl (omega arith)) (inl (omega arith)), later_off _ _ (omega arith))

    -- those that edition 1 does not have
    pub in_later : 86 ≤ e → lost_in from to (in_element e) b ≡ later_lost (is_first to) (leaves from to) (in_element e) b
    unfolding lost_in
    in_later h = rw (shared_off (inr (omega arith)) (inr (omega arith)) (inr (omega arith)) (inr h))

    pub none_later : 87 ≤ e → e ≤ 93 → is_first to ≡ false → lost_in from to (in_element e) b ≡ false
    unfolding later_lost
    none_later l h f = in_later (omega arith) ∙ rw (f, off 86 86 54 54 86 86 (omega arith) (omega arith) (inr l), off 94 101 54 55 94 101 (omega arith) (omega arith) (inl (omega arith))) (and_none (leaves from to))

    pub all_later : 87 ≤ e → e ≤ 93 → is_first to ≡ true → lost_in from to (in_element e) b ≡ between 33 126 b
    unfolding later_lost
    all_later l h f = in_later (omega arith) ∙ rw (f, within 86 93 33 126 (omega arith) h, off 94 101 33 126 94 101 (omega arith) (omega arith) (inl (omega arith))) (or_none (between 33 126 b))

    pub country_in : e ≡ 43 → lost_in from to (in_element e) b ≡ (crosses from to && between 33 126 b)
    unfolding lost_in shared_lost country_lost
    country_in q =
        rw (codes_off _ (inr (omega arith)), version_off _ (inl (omega arith)), flags_off _ (inl (omega arith)), later_off _ _ (omega arith), within 43 43 33 126 (omega arith) (omega arith)) (or_none _ ∙ or_none _ ∙ or_none _)
