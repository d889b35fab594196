-- Readings as numbers: how a loop packs them at the front of what is lent, and that they are unpacked as they were. Assumes nothing.
use mathlib.Core.Path.{◌≡◌, refl, sym, ap, ◌∙◌}
use mathlib.Core.Bool.{Bool, true, false}
use mathlib.Core.List.{List, [], ◌∷◌, ◌++◌}
use Prim.Native.Nat.{ℕ, zero, suc, ◌+◌, ◌*◌, ◌<◌, ◌≤◌}
use native.Mathlib.Nat.{add-zero}
use native.Mathlib.Numerals.{add-one}
use native.Mathlib.Omega.{arith}
use borrow.Author.Tests.{leb-true}
use lib.Dec.{leb, lit<}
use lib.IntN.{ℤ, pos}
use lib.ListN.{length, get_or, take, drop, set, length-set}
use lib.Seq.{take_all, take-suc, drop-cons, set_at, append_snoc, length-take-le, get_or-take, get_or-drop}
use Rattle.text.proofs.Ways.{and_first, and_second}
use Rattle.reading.specs.declared.Kind.TheVariants.{Measured, Computed, IcedMeasured, IcedComputed}
use Rattle.reading.specs.declared.Reading.{Reading}
use Rattle.reading.specs.declared.Reading.TheVariants.{Missing, Code, Text, Amount, At}
use Rattle.trial.specs.declared.Packed.{Packed}
use Rattle.trial.specs.Packed.{reading_from, packed, numbers_from, amounts_from, room, laid_in}

-- what is laid at the front: one more
front_more : {A : Type 0} (before laid : List A) (j : ℕ) (z x : A) → j < length before → j < length laid → x ≡ get_or laid j z → set (take j laid ++ drop j before) j x ≡ take (suc j) laid ++ drop (suc j) before
front_more before laid j z x h l e =
    let rest = drop (suc j) before in
    ap (set (take j laid ++ drop j before) j) e ∙ ap (λ r. set (take j laid ++ r) j (get_or laid j z)) (drop-cons before j z h) ∙
    set_at (take j laid) (get_or before j z) rest (get_or laid j z) j (length-take-le j laid (omega arith)) ∙ sym (append_snoc (take j laid) (get_or laid j z) rest) ∙
    ap (λ r. r ++ rest) (sym (take-suc laid j z l))

-- and all of it
pub front_all : {A : Type 0} (before laid : List A) (n : ℕ) → length laid ≡ n → take n laid ++ drop n before ≡ laid ++ drop n before
front_all before laid n h = ap (λ r. r ++ drop n before) (take_all n laid (omega arith))

-- the numbers of the readings: how many there are, and which
module _ (f : ℕ → Reading) where
  pub numbers_long : (a n : ℕ) → length (numbers_from f a n) ≡ 4 * n
  unfolding numbers_from
  numbers_long a zero = refl
  numbers_long a (suc n) = omega (arith, numbers_long (a + 1) n)

  pub amounts_long : (a n : ℕ) → length (amounts_from f a n) ≡ n
  unfolding amounts_from
  amounts_long a zero = refl
  amounts_long a (suc n) = ap suc (amounts_long (a + 1) n)

  amount_at : (a n k : ℕ) (d : ℤ) → k < n → get_or (amounts_from f a n) k d ≡ (packed (f (a + k))).amount
  unfolding amounts_from
  amount_at a zero k d h = absurd (omega arith)
  amount_at a (suc n) zero d h = ap (λ (i : ℕ). (packed (f i)).amount) (sym (add-zero a))
  amount_at a (suc n) (suc k) d h = amount_at (a + 1) n k d (omega arith) ∙ ap (λ (i : ℕ). (packed (f i)).amount) (on a k)
    where
      on : (a k : ℕ) → a + 1 + k ≡ a + suc k
      on a k = omega arith

  -- the numbers from 4 k on are those of element a + k
  numbers_at : (a n k : ℕ) → k < n → take 4 (drop (4 * k) (numbers_from f a n)) ≡ (packed (f (a + k))).case ∷ (packed (f (a + k))).first ∷ (packed (f (a + k))).second ∷ (packed (f (a + k))).digit ∷ []
  unfolding numbers_from
  numbers_at a zero k h = absurd (omega arith)
  numbers_at a (suc n) zero h = ap (λ (i : ℕ). (packed (f i)).case ∷ (packed (f i)).first ∷ (packed (f i)).second ∷ (packed (f i)).digit ∷ []) (sym (add-zero a))
  numbers_at a (suc n) (suc k) h =
      let on : a + 1 + k ≡ a + suc k = omega arith in
      let past : 4 * suc k ≡ suc (suc (suc (suc (4 * k)))) = omega arith in
      ap (λ (i : ℕ). take 4 (drop i (numbers_from f a (suc n)))) past ∙ numbers_at (a + 1) n k (omega arith) ∙
      ap (λ (i : ℕ). (packed (f i)).case ∷ (packed (f i)).first ∷ (packed (f i)).second ∷ (packed (f i)).digit ∷ []) on

  number_at : (k j : ℕ) → k < 101 → j < 4 → get_or (numbers_from f 1 101) (4 * k + j) 0 ≡ get_or ((packed (f (1 + k))).case ∷ (packed (f (1 + k))).first ∷ (packed (f (1 + k))).second ∷ (packed (f (1 + k))).digit ∷ []) j 0
  number_at k j h l = sym (get_or-drop (4 * k) (numbers_from f 1 101) j 0) ∙ sym (get_or-take 4 (drop (4 * k) (numbers_from f 1 101)) j 0 l) ∙ ap (λ (t : List ℕ). get_or t j 0) (numbers_at 1 101 k h)

-- four more numbers at the front
four_more : (before laid : List ℕ) (i w x y z : ℕ) → i + 4 ≤ length before → i + 4 ≤ length laid → w ≡ get_or laid i 0 → x ≡ get_or laid (i + 1) 0 → y ≡ get_or laid (i + 2) 0 → z ≡ get_or laid (i + 3) 0 →
    set (set (set (set (take i laid ++ drop i before) i w) (i + 1) x) (i + 2) y) (i + 3) z ≡ take (i + 4) laid ++ drop (i + 4) before
four_more before laid i w x y z h l e f g k =
    ap (λ (r : List ℕ). set (set (set r (i + 1) x) (i + 2) y) (i + 3) z) (on i (i + 1) w (omega arith) (omega arith) (omega arith) e) ∙
    ap (λ (r : List ℕ). set (set r (i + 2) y) (i + 3) z) (on (i + 1) (i + 2) x (omega arith) (omega arith) (omega arith) f) ∙
    ap (λ (r : List ℕ). set r (i + 3) z) (on (i + 2) (i + 3) y (omega arith) (omega arith) (omega arith) g) ∙ on (i + 3) (i + 4) z (omega arith) (omega arith) (omega arith) k
  where
    on : (j n a : ℕ) → n ≡ suc j → j < length before → j < length laid → a ≡ get_or laid j 0 → set (take j laid ++ drop j before) j a ≡ take n laid ++ drop n before
    on j n a s p q r = front_more before laid j 0 a p q r ∙ ap (λ (m : ℕ). take m laid ++ drop m before) (sym s)

pub four_long : (xs : List ℕ) (k : ℕ) (w : Packed) → length (set (set (set (set xs (4 * k) w.case) (4 * k + 1) w.first) (4 * k + 2) w.second) (4 * k + 3) w.digit) ≡ length xs
four_long xs k w =
    let a = set xs (4 * k) w.case in
    let b = set a (4 * k + 1) w.first in
    let c = set b (4 * k + 2) w.second in
    length-set c _ _ ∙ length-set b _ _ ∙ length-set a _ _ ∙ length-set xs _ _

-- the loop that packs: what is laid of the elements up to k, and of one more
module _ (f : ℕ → Reading) (k : ℕ) (h : k < 101) where
  pub lay_numbers : (before now : List ℕ) → 404 ≤ length before → now ≡ take (4 * k) (numbers_from f 1 101) ++ drop (4 * k) before → (w : Packed) → w ≡ packed (f (1 + k)) →
      set (set (set (set now (4 * k) w.case) (4 * k + 1) w.first) (4 * k + 2) w.second) (4 * k + 3) w.digit ≡ take (4 * (k + 1)) (numbers_from f 1 101) ++ drop (4 * (k + 1)) before
  lay_numbers before now l inv w e =
      let laid = numbers_from f 1 101 in
      let first : w.case ≡ get_or laid (4 * k) 0 = ap (λ (v : Packed). v.case) e ∙ sym (number_at f k 0 h (lit< tt)) ∙ ap (λ (i : ℕ). get_or laid i 0) (add-zero (4 * k)) in
      let on : 4 * k + 4 ≡ 4 * (k + 1) = omega arith in
      ap (λ (r : List ℕ). set (set (set (set r (4 * k) w.case) (4 * k + 1) w.first) (4 * k + 2) w.second) (4 * k + 3) w.digit) inv ∙
      four_more before laid (4 * k) w.case w.first w.second w.digit (omega arith) (omega (arith, numbers_long f 1 101)) first
      (ap (λ (v : Packed). v.first) e ∙ sym (number_at f k 1 h (lit< tt))) (ap (λ (v : Packed). v.second) e ∙ sym (number_at f k 2 h (lit< tt))) (ap (λ (v : Packed). v.digit) e ∙ sym (number_at f k 3 h (lit< tt))) ∙
      ap (λ (n : ℕ). take n laid ++ drop n before) on

  pub lay_amounts : (before now : List ℤ) → 101 ≤ length before → now ≡ take k (amounts_from f 1 101) ++ drop k before → (a : ℤ) → a ≡ (packed (f (1 + k))).amount →
      set now k a ≡ take (k + 1) (amounts_from f 1 101) ++ drop (k + 1) before
  lay_amounts before now l inv a e =
      let laid = amounts_from f 1 101 in
      ap (λ (r : List ℤ). set r k a) inv ∙ front_more before laid k (pos 0) a (omega arith) (omega (arith, amounts_long f 1 101)) (e ∙ sym (amount_at f 1 101 k (pos 0) h)) ∙
      ap (λ (n : ℕ). take n laid ++ drop n before) (sym (add-one k))

-- where there is room they are laid, and else nothing is
pub room_there : (ns : List ℕ) (ms : List ℤ) → room ns ms ≡ true → (404 ≤ length ns) × (101 ≤ length ms)
room_there ns ms h = (leb-true _ _ (and_first _ _ h), leb-true _ _ (and_second (leb 404 (length ns)) _ h))

pub laid : {A : Type 0} (t : Bool) (xs before after : List A) (n : ℕ) → t ≡ true → length xs ≡ n → after ≡ xs ++ drop n before → after ≡ laid_in t xs before
laid t xs before after n h l e = e ∙ rw (h, l)

pub unlaid : {A : Type 0} (t : Bool) (xs before : List A) → t ≡ false → before ≡ laid_in t xs before
unlaid t xs before h = rw h

-- what is packed is unpacked as it was
pub packed_back : (r : Reading) → reading_from (packed r).case (packed r).first (packed r).second (packed r).digit (packed r).amount ≡ r
unfolding reading_from packed
packed_back Missing = refl
packed_back (Code n) = refl
packed_back (Text n) = refl
packed_back (Amount a Measured) = refl
packed_back (Amount a Computed) = refl
packed_back (Amount a IcedMeasured) = refl
packed_back (Amount a IcedComputed) = refl
packed_back (At p) = refl
