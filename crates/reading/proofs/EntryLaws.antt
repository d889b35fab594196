-- A row of entries that a loop fills one after another: those below the element where it stands are read, the others are missing. Assumes nothing.
use Rattle.std.proofs.Common.{Ok}
use mathlib.Core.Path.{◌≡◌, refl, sym, ap, ◌∙◌}
use mathlib.Core.Bool.{cond}
use mathlib.Core.List.{List}
use Prim.Native.Nat.{ℕ, zero, suc, ◌+◌, ◌-◌, ◌<◌, ◌≤◌}
use native.Mathlib.Omega.{arith}
use borrow.Author.Tests.{le-leb, lt-leb, leb-true, leb-false}
use lib.Dec.{leb}
use lib.ListN.{length, get_or, set}
use Rattle.text.proofs.Ways.{decide}
use Rattle.layout.specs.declared.Edition.{Edition}
use Rattle.checking.specs.Check.{Answer}
use Rattle.reading.specs.declared.Reading.{Reading}
use Rattle.reading.specs.declared.Reading.TheVariants.{Missing}
use Rattle.reading.specs.declared.Readings.{Readings}
use Rattle.reading.specs.Readings.{reading_of}
use Rattle.reading.specs.Answers.{entries_from, entries_of, read_after, read_as}

-- elements that read the same have the same entries
same_entries : (g h : ℕ → Reading) (a n : ℕ) → ((i : ℕ) → a ≤ i → i < a + n → g i ≡ h i) → entries_from g a n ≡ entries_from h a n
unfolding entries_from
same_entries g h a zero f = refl
same_entries g h a (suc n) f = rw (f a (omega arith) (omega arith), same_entries g h (a + 1) n (λ i l m. f i (omega arith) (omega arith)))

-- the entry of an element
entry_at : (g : ℕ → Reading) (a n k : ℕ) (d : Reading) → k < n → get_or (entries_from g a n) k d ≡ g (a + k)
unfolding entries_from
entry_at g a zero k d h = absurd (omega arith)
entry_at g a (suc n) zero d h = ap g (omega arith)
entry_at g a (suc n) (suc k) d h = entry_at g (a + 1) n k d (omega arith) ∙ ap g (omega arith)

pub entries_long : (g : ℕ → Reading) (a n : ℕ) → length (entries_from g a n) ≡ n
unfolding entries_from
entries_long g a zero = refl
entries_long g a (suc n) = ap suc (entries_long g (a + 1) n)

-- what an element reads as, by its index
pub held_next : (es : List Reading) (k : ℕ) → get_or es k Missing ≡ read_as es (1 + k)
held_next es k = let back : 1 + k - 1 ≡ k = omega arith in ap (λ (j : ℕ). get_or es j Missing) (sym back)

pub read_as_lem : (g : ℕ → Reading) (e : ℕ) → 1 ≤ e → e ≤ 101 → read_as (entries_of g) e ≡ g e
read_as_lem g e l h =
    let here : 1 + (e - 1) ≡ e = omega arith in
    entry_at g 1 101 (e - 1) Missing (omega arith) ∙ ap g here

-- the same entries but for one
set_entry : (g h : ℕ → Reading) (a n k : ℕ) → k < n → ((i : ℕ) → a ≤ i → i < a + n → (i ≡ a + k → ⊥) → g i ≡ h i) → set (entries_from g a n) k (h (a + k)) ≡ entries_from h a n
unfolding entries_from
set_entry g h a zero k l f = absurd (omega arith)
set_entry g h a (suc n) zero l f =
    let here : a + zero ≡ a = omega arith in
    rw (here, same_entries g h (a + 1) n (λ i p q. f i (omega arith) (omega arith) (λ z. omega arith)))
set_entry g h a (suc n) (suc k) l f =
    let on : a + suc k ≡ a + 1 + k = omega arith in
    rw (f a (omega arith) (omega arith) (λ z. omega arith), on, set_entry g h (a + 1) n k (omega arith) (λ i p q z. f i (omega arith) (omega arith) (λ y. z (omega arith))))

-- what the elements below e read as
abbrev pub below : ℕ → (ℕ → Reading) → ℕ → Reading
below e f i = cond (leb e i) Missing (f i)

module _ (f : ℕ → Reading) (e i : ℕ) where
  is_below : i < e → below e f i ≡ f i
  is_below l = rw (lt-leb e i l)

  is_not : e ≤ i → below e f i ≡ Missing
  is_not l = rw (le-leb e i l)

module _ (f : ℕ → Reading) (e : ℕ) (es : List Reading) (filled : es ≡ entries_of (below e f)) where
  -- an entry that is filled
  fill_below : (k i : ℕ) (d : Reading) → i ≡ 1 + k → i < e → i ≤ 101 → get_or es k d ≡ f i
  fill_below k i d p l h =
      ap (λ (xs : List Reading). get_or xs k d) filled ∙ entry_at (below e f) 1 101 k d (omega arith) ∙
      ap (below e f) (sym p) ∙ is_below f e i l

  -- one more
  pub fill_turn : (k : ℕ) → e ≡ 1 + k → e ≤ 101 → (x : Reading) → x ≡ f e → set es k x ≡ entries_of (below (e + 1) f)
  fill_turn k p h x q =
      let reads : f e ≡ below (e + 1) f (1 + k) = sym (is_below f (e + 1) e (omega arith)) ∙ ap (below (e + 1) f) p in
      ap (λ (xs : List Reading). set xs k x) filled ∙ ap (set (entries_of (below e f)) k) (q ∙ reads) ∙
      set_entry (below e f) (below (e + 1) f) 1 101 k (omega arith)
      (λ i l m z. decide (leb e i) (λ t. let u = leb-true e i t in is_not f e i u ∙ sym (is_not f (e + 1) i (omega arith)))
      (λ t. let u = leb-false e i t in is_below f e i u ∙ sym (is_below f (e + 1) i (omega arith))))

  -- all, where the others are missing
  pub fill_end : ((i : ℕ) → e ≤ i → i ≤ 101 → f i ≡ Missing) → es ≡ entries_of f
  fill_end rest = filled ∙ same_entries (below e f) f 1 101
      (λ i l h. decide (leb e i) (λ t. let u = leb-true e i t in is_not f e i u ∙ sym (rest i u (omega arith))) (λ t. is_below f e i (leb-false e i t)))

-- the same of the answer that holds the entries
abbrev pub holding : Answer → List Reading → Readings
holding a es = record { answer = a; entries = es }

module _ (a : Answer) (f : ℕ → Reading) (e : ℕ) (all : Readings) (filled : all ≡ holding a (entries_of (below e f))) where
  es : all.entries ≡ entries_of (below e f)
  es = ap (λ (r : Readings). r.entries) filled

  pub holds_below : (k i : ℕ) (d : Reading) → i ≡ 1 + k → i < e → i ≤ 101 → get_or all.entries k d ≡ f i
  holds_below = fill_below f e all.entries es

  pub holds_turn : (k : ℕ) → e ≡ 1 + k → e ≤ 101 → (x : Reading) → x ≡ f e → holding all.answer (set all.entries k x) ≡ holding a (entries_of (below (e + 1) f))
  holds_turn k p h x q = rw (ap (λ (r : Readings). r.answer) filled, fill_turn f e all.entries es k p h x q)

  pub holds_end : ((i : ℕ) → e ≤ i → i ≤ 101 → f i ≡ Missing) → all ≡ holding a (entries_of f)
  holds_end rest = filled ∙ ap (holding a) (sym es ∙ fill_end f e all.entries es rest)

-- entries that are right for an answer are so for the one that it is
pub as_known : {a b : Answer} (xs : List ℕ) (es : List Reading) → a ≡ b → holding b es ≡ read_after b xs → holding a es ≡ read_after a xs
as_known xs es g h = rw g h

-- what the entries of an accepted record hold is what the elements read as
pub read_back : (ed : Edition) (xs : List ℕ) (all : Readings) → all ≡ read_after (Ok ed) xs → (e : ℕ) → 1 ≤ e → e ≤ 101 → read_as all.entries e ≡ reading_of ed xs e
unfolding read_after
read_back ed xs all h e l m = rw h (read_as_lem (reading_of ed xs) e l m)
