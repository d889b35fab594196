-- The laws of a row in which what is lost is blank: byte by byte, one column set, one step after another, and a run of columns one at a time. Assumes nothing.
use mathlib.Core.Path.{◌≡◌, refl, sym, ap, ap₂, ◌∙◌}
use mathlib.Core.Bool.{Bool, true, false, cond, not, ◌&&◌, ◌||◌}
use mathlib.Core.List.{List, [], ◌∷◌, ◌++◌}
use mathlib.Core.Logic.{◌⊎◌, inl, inr}
use Prim.Native.Nat.{ℕ, zero, suc, ◌+◌, ◌-◌, ◌<◌, ◌≤◌}
use native.Mathlib.Nat.{add-zero, add-suc, suc-add}
use native.Mathlib.Omega.{arith}
use borrow.Author.Tests.{le-leb, lt-leb, lt-ltb, le-ltb, not-true, not-false}
use lib.Dec.{leb, ltb}
use lib.ListN.{length, get_or, set, take}
use lib.Seq.{length-take-le}
use borrow.Rule.Slice.PartMut.{put_mid, post_of}
use Rattle.std.proofs.lemmas.List.{set-append_left, set-append_right, get_or_append_left, get_or-append_right}
use Rattle.text.specs.Bytes.{between}
use Rattle.element_sets.proofs.Ways.{up_to_or_past}
use Rattle.layout.specs.Page.{start_of}
use Rattle.layout.proofs.Columns.{start_rises}
use Rattle.blanking.specs.LostBytes.{Spot, in_column, some, run, blanked_from, blanked_by, blanked}

pub or_none : (y : Bool) → (y || false) ≡ y
or_none true = refl
or_none false = refl

pub blanked_length : (p : ℕ → ℕ → Bool) (c : ℕ) (xs : List ℕ) → length (blanked_from p c xs) ≡ length xs
unfolding blanked_from
blanked_length p c [] = refl
blanked_length p c (b ∷ xs) = ap suc (blanked_length p (suc c) xs)

-- the byte in each column
byte_from : (p : ℕ → ℕ → Bool) (c : ℕ) (xs : List ℕ) (i : ℕ) → i < length xs → get_or (blanked_from p c xs) i 0 ≡ cond (p (c + i) (get_or xs i 0)) 32 (get_or xs i 0)
unfolding blanked_from
byte_from p c [] i h = absurd (omega arith)
byte_from p c (b ∷ xs) zero h = rw (add-zero c)
byte_from p c (b ∷ xs) (suc i) h = rw (add-suc c i, ← suc-add c i) (byte_from p (suc c) xs i (omega arith))

pub byte_at : (p : ℕ → ℕ → Bool) (xs : List ℕ) (i : ℕ) → i < length xs → get_or (blanked_by p xs) i 0 ≡ cond (p i (get_or xs i 0)) 32 (get_or xs i 0)
byte_at p xs i h = byte_from p 0 xs i h ∙ ap (λ (j : ℕ). cond (p j (get_or xs i 0)) 32 (get_or xs i 0)) (omega arith)

-- tests that agree in the columns of the row
pub same_blanked : (p q : ℕ → ℕ → Bool) (c : ℕ) (xs : List ℕ) → ((j b : ℕ) → c ≤ j → j < c + length xs → p j b ≡ q j b) → blanked_from p c xs ≡ blanked_from q c xs
unfolding blanked_from
same_blanked p q c [] f = refl
same_blanked p q c (b ∷ xs) f =
    ap₂ (λ (x : Bool) (t : List ℕ). cond x 32 b ∷ t) (f c b (omega arith) (omega arith)) (same_blanked p q (suc c) xs (λ j d h l. f j d (omega arith) (omega arith)))

-- where nothing is lost
none_from : (c : ℕ) (xs : List ℕ) → blanked_from (λ j b. false) c xs ≡ xs
unfolding blanked_from
none_from c [] = refl
none_from c (b ∷ xs) = ap (λ (t : List ℕ). b ∷ t) (none_from (suc c) xs)

pub none_lost : (p : ℕ → ℕ → Bool) (xs : List ℕ) → ((j b : ℕ) → j < length xs → p j b ≡ false) → xs ≡ blanked_by p xs
none_lost p xs f = sym (same_blanked p (λ j b. false) 0 xs (λ j b h l. f j b (omega arith)) ∙ none_from 0 xs)

-- one step after another loses what either loses
pub twice_from : (p q : ℕ → ℕ → Bool) (c : ℕ) (xs : List ℕ) → blanked_from q c (blanked_from p c xs) ≡ blanked_from (λ j b. p j b || q j b) c xs
unfolding blanked_from
twice_from p q c [] = refl
twice_from p q c (b ∷ xs) = ap₂ (λ (d : ℕ) (t : List ℕ). d ∷ t) (by (p c b)) (twice_from p q (suc c) xs)
  where
    same : (x : Bool) → ◌≡◌ {A = ℕ} (cond x 32 32) 32
    same true = refl
    same false = refl

    by : (x : Bool) → cond (q c (cond x 32 b)) 32 (cond x 32 b) ≡ cond (x || q c b) 32 b
    by true = same (q c 32)
    by false = refl

-- after a step that lost p, one that loses q: by columns, and by where the byte stands
pub then_by : (p q : ℕ → ℕ → Bool) (xs mid after : List ℕ) → mid ≡ blanked_by p xs → after ≡ blanked_by q mid → after ≡ blanked_by (λ j b. p j b || q j b) xs
then_by p q xs mid after f g = g ∙ ap (blanked_by q) f ∙ twice_from p q 0 xs

pub then : (p q : Spot → ℕ → Bool) (xs mid after : List ℕ) → mid ≡ blanked p xs → after ≡ blanked q mid → after ≡ blanked (λ at b. p at b || q at b) xs
then p q xs mid after f g = then_by (λ c. p (in_column c)) (λ c. q (in_column c)) xs mid after f g

-- columns in a run, and beside it
module _ (i n lo hi c b : ℕ) where
  pub within : i ≤ c → c < i + n → run i n lo hi c b ≡ between lo hi b
  within h l = rw (le-leb i c h, lt-ltb c (i + n) l)

  pub beside : (c < i) ⊎ (i + n ≤ c) → run i n lo hi c b ≡ false
  beside (inl h) = rw (lt-leb i c h)
  beside (inr h) = rw (le-ltb c (i + n) h) (by (leb i c))
    where
      by : (x : Bool) → ((x && false) && between lo hi b) ≡ false
      by true = refl
      by false = refl

module _ (lo hi : ℕ) where
  abbrev stays : ℕ → ℕ
  stays b = cond (between lo hi b) 32 b

  -- one column that is set
  one_from : (c : ℕ) (xs : List ℕ) (i k : ℕ) → k ≡ c + i → i < length xs → set xs i (stays (get_or xs i 0)) ≡ blanked_from (run k 1 lo hi) c xs
  unfolding blanked_from
  one_from c [] i k q h = absurd (omega arith)
  one_from c (b ∷ xs) zero k q h =
      ap₂ (λ (x : Bool) (t : List ℕ). cond x 32 b ∷ t) (sym (within k 1 lo hi c b (omega (arith, q)) (omega (arith, q))))
      (sym (same_blanked (run k 1 lo hi) (λ j d. false) (suc c) xs (λ j d l m. beside k 1 lo hi j d (inr (omega (arith, q)))) ∙ none_from (suc c) xs))
  one_from c (b ∷ xs) (suc i) k q h =
      ap₂ (λ (x : Bool) (t : List ℕ). cond x 32 b ∷ t) (sym (beside k 1 lo hi c b (inl (omega (arith, q))))) (one_from (suc c) xs i k (q ∙ omega arith) (omega arith))

  module _ (xs : List ℕ) (i : ℕ) where
    pub one_set : i < length xs → (x : Bool) → x ≡ between lo hi (get_or xs i 0) → (v : ℕ) → v ≡ cond x 32 (get_or xs i 0) → set xs i v ≡ blanked_by (run i 1 lo hi) xs
    one_set h x f v g = ap (set xs i) (g ∙ ap (λ (y : Bool). cond y 32 (get_or xs i 0)) f) ∙ one_from 0 xs i i (omega arith) h

    -- a run of no column, and of one more
    pub no_run : (n : ℕ) → n ≡ 0 → xs ≡ blanked_by (run i n lo hi) xs
    no_run n z = none_lost (run i n lo hi) xs (λ j b h. by j b (up_to_or_past i j))
      where
        by : (j b : ℕ) → (i ≤ j) ⊎ (j < i) → run i n lo hi j b ≡ false
        by j b (inl h) = beside i n lo hi j b (inr (omega (arith, z)))
        by j b (inr h) = beside i n lo hi j b (inl h)

-- a run and the column behind it
pub run_joined : (i n lo hi j b : ℕ) → (run i n lo hi j b || run (i + n) 1 lo hi j b) ≡ run i (n + 1) lo hi j b
run_joined i n lo hi j b = by (up_to_or_past i j) (up_to_or_past (i + n) j) (up_to_or_past (i + n + 1) j)
  where
    by : (i ≤ j) ⊎ (j < i) → (i + n ≤ j) ⊎ (j < i + n) → (i + n + 1 ≤ j) ⊎ (j < i + n + 1) → (run i n lo hi j b || run (i + n) 1 lo hi j b) ≡ run i (n + 1) lo hi j b
    by (inr u) w o = rw (beside i n lo hi j b (inl u), beside (i + n) 1 lo hi j b (inl (omega arith)), beside i (n + 1) lo hi j b (inl u))
    by (inl u) (inr w) o = rw (within i n lo hi j b u w, beside (i + n) 1 lo hi j b (inl w), within i (n + 1) lo hi j b u (omega arith)) (or_none (between lo hi b))
    by (inl u) (inl w) (inl o) = rw (beside i n lo hi j b (inr w)) (beside (i + n) 1 lo hi j b (inr o) ∙ sym (beside i (n + 1) lo hi j b (inr (omega arith))))
    by (inl u) (inl w) (inr o) = rw (beside i n lo hi j b (inr w)) (within (i + n) 1 lo hi j b w o ∙ sym (within i (n + 1) lo hi j b u (omega arith)))

pub run_on : (lo hi : ℕ) (xs row after : List ℕ) (i n : ℕ) → row ≡ blanked_by (run i n lo hi) xs → after ≡ blanked_by (run (i + n) 1 lo hi) row → after ≡ blanked_by (run i (n + 1) lo hi) xs
run_on lo hi xs row after i n f g = then_by (run i n lo hi) (run (i + n) 1 lo hi) xs row after f g ∙ same_blanked _ (run i (n + 1) lo hi) 0 xs (λ j b l m. run_joined i n lo hi j b)

-- a part of a row, put in its place: a byte of it, one that is set, and one more column of a run
module _ (a k : ℕ) (xs ys : List ℕ) (j : ℕ) (l : j < length ys) (h : a + length ys ≤ length xs) where
  before : length (take a xs) ≡ a
  before = length-take-le a xs (omega arith)

  part_byte : get_or (put_mid a k xs ys) (a + j) 0 ≡ get_or ys j 0
  part_byte =
      get_or-append_right (take a xs) (ys ++ post_of a k xs) a (a + j) 0 before (omega arith) ∙ ap (λ (i : ℕ). get_or (ys ++ post_of a k xs) i 0) (omega arith) ∙
      get_or_append_left ys (post_of a k xs) 0 j l

  part_set : (v : ℕ) → put_mid a k xs (set ys j v) ≡ set (put_mid a k xs ys) (a + j) v
  part_set v =
      sym (set-append_right (take a xs) (ys ++ post_of a k xs) a (a + j) v before (omega arith) ∙ ap (λ (i : ℕ). take a xs ++ set (ys ++ post_of a k xs) i v) (omega arith) ∙
      ap (λ (zs : List ℕ). take a xs ++ zs) (set-append_left ys (post_of a k xs) j v l))

  pub part_on : (lo hi : ℕ) → put_mid a k xs ys ≡ blanked_by (run a j lo hi) xs → (x : Bool) → x ≡ between lo hi (get_or ys j 0) → (v : ℕ) → v ≡ cond x 32 (get_or ys j 0) →
      put_mid a k xs (set ys j v) ≡ blanked_by (run a (j + 1) lo hi) xs
  part_on lo hi f x p v q =
      let whole : length (put_mid a k xs ys) ≡ length xs = ap length f ∙ blanked_length (run a j lo hi) 0 xs in
      run_on lo hi xs (put_mid a k xs ys) _ a j f
      (part_set v ∙ one_set lo hi (put_mid a k xs ys) (a + j) (omega (arith, whole)) x (p ∙ ap (between lo hi) (sym part_byte)) v (q ∙ ap (cond x 32) (sym part_byte)))

-- the columns of some elements are such a run
pub as_run : (first last lo hi : ℕ) → first ≤ last → (xs : List ℕ) (i n : ℕ) → i ≡ start_of first → n ≡ start_of (last + 1) - i → blanked_by (run i n lo hi) xs ≡ blanked (some first last lo hi) xs
as_run first last lo hi h xs i n f g =
    let end : i + n ≡ start_of (last + 1) = omega (arith, start_rises first (last + 1) (omega arith)) in
    ap₂ (λ (s t : ℕ). blanked_by (λ c b. (leb s c && ltb c t) && between lo hi b) xs) f end

-- a step that is taken or not, by its test
pub idle : (lost : Bool → Spot → ℕ → Bool) → ((at : Spot) (b : ℕ) → lost false at b ≡ false) → (x : Bool) → not x ≡ true → (xs : List ℕ) → xs ≡ blanked (lost x) xs
idle lost f x h xs = none_lost (λ c. lost x (in_column c)) xs (λ j b l. rw (not-true x h) (f (in_column j) b))

pub taken : (lost : Bool → Spot → ℕ → Bool) (x : Bool) → not x ≡ false → (xs after : List ℕ) → after ≡ blanked (lost true) xs → after ≡ blanked (lost x) xs
taken lost x h xs after f = rw (not-false x h) f

pub tested : (lost : Bool → Spot → ℕ → Bool) (x y : Bool) → x ≡ y → (xs after : List ℕ) → after ≡ blanked (lost x) xs → after ≡ blanked (lost y) xs
tested lost x y e xs after f = rw (← e) f
