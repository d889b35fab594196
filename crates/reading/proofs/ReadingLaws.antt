-- What each way through the code that reads says of the reading. Assumes nothing.
use Rattle.layout.proofs.PartLaws.{coordinate_cases, sign_cases, temperature_cases, coordinate_is, sign_is, temperature_is}
use mathlib.Core.Path.{◌≡◌, refl, sym, ap, ◌∙◌}
use mathlib.Core.Logic.{⊎_elim}
use mathlib.Core.Bool.{Bool, true, false, cond, ◌||◌}
use mathlib.Core.List.{List}
use Prim.Native.Nat.{ℕ, ◌+◌, ◌-◌, ◌≤◌, ◌<◌}
use native.Mathlib.Omega.{arith}
use borrow.Author.Tests.{eq-eqb, ne_eqb, eqb-true, eqb-false}
use native.Mathlib.Nat.{le_refl, eq-or-lt_of_le}
use lib.Dec.{eqb, lit≤}
use lib.ListN.{length}
use Rattle.text.specs.Bytes.{every}
use Rattle.text.specs.LegalTexts.{among}
use Rattle.text.proofs.Among.{among_cases, neither_first, neither_second}
use Rattle.text.proofs.Ways.{decide}
use Rattle.layout.specs.declared.Edition.{Edition}
use Rattle.layout.specs.Editions.{length_of, last_of}
use Rattle.layout.specs.Page.{text_of, is_departure, is_coordinate, is_sign, is_temperature, element, page}
use Rattle.layout.proofs.Beyond.{last_above, text_none}
use Rattle.reading.specs.declared.Reading.{Reading}
use Rattle.reading.specs.declared.Reading.TheVariants.{Missing}
use Rattle.reading.specs.Readings.{plain, temperature, departure, place_of, lead, item_of, reading_of}

-- a number that is one of four is no more than the greatest of them, and no less than the least
pub among_below : (k a b c d n : ℕ) → a ≤ k → b ≤ k → c ≤ k → d ≤ k → among a b c d n ≡ true → n ≤ k
among_below k = among_cases (λ n. n ≤ k)

pub among_above : (k a b c d n : ℕ) → k ≤ a → k ≤ b → k ≤ c → k ≤ d → among a b c d n ≡ true → k ≤ n
among_above k = among_cases (λ n. k ≤ n)

among_past : (k a b c d n : ℕ) → a ≤ k → b ≤ k → c ≤ k → d ≤ k → k < n → among a b c d n ≡ false
among_past k a b c d n p q r s h = decide (among a b c d n) (λ t. let l = among_below k a b c d n p q r s t in absurd (omega arith)) (λ t. t)

-- what the element reads as that shares its reading with no lower one, by the kind of element
module _ (ed : Edition) (xs : List ℕ) (e : ℕ) where
  pub item_place : e ≡ 6 → item_of ed xs e ≡ place_of ed (text_of 6 xs) (text_of 7 xs) (text_of 8 xs)
  unfolding item_of
  item_place h = rw (eq-eqb e 6 h)

  module _ (p : e ≡ 6 → ⊥) where
    pub item_temperature : is_sign e ≡ true → item_of ed xs e ≡ temperature (text_of e xs) (text_of (e + 1) xs)
    unfolding item_of
    item_temperature h = rw (ne_eqb e 6 p, h)

  pub item_alone : (eqb e 6 || is_sign e) ≡ false → item_of ed xs e ≡ cond (is_departure e) (departure (text_of e xs)) (plain e (text_of e xs))
  unfolding item_of
  item_alone h = rw (neither_first (eqb e 6) _ h, neither_second (eqb e 6) _ h)

  -- an element that the edition lacks has no text, and so no reading
  pub lacking : length xs ≡ length_of ed → last_of ed < e → reading_of ed xs e ≡ Missing
  unfolding departure plain every
  lacking f h =
      let past = last_above ed in
      let alone : (eqb e 6 || is_sign e) ≡ false = rw (ne_eqb e 6 (λ z. omega arith), sign_is e) (among_past 85 16 18 28 50 e (lit≤ tt) (lit≤ tt) (lit≤ tt) (lit≤ tt) (omega arith)) in
      let coordinate = coordinate_is e ∙ among_past 85 7 8 7 8 e (lit≤ tt) (lit≤ tt) (lit≤ tt) (lit≤ tt) (omega arith) in
      let temperature = temperature_is e ∙ among_past 85 17 19 29 51 e (lit≤ tt) (lit≤ tt) (lit≤ tt) (lit≤ tt) (omega arith) in
      rw (coordinate, temperature, item_alone alone, text_none ed xs f e h) (decide (is_departure e) (λ t. rw t) (λ t. rw t))

-- an element that others share the reading of: it is no later than the last sign, and where it is not column 12 it is a sign
module _ (e : ℕ) (h : (eqb e 6 || is_sign e) ≡ true) where
  pub leads_sign : (e ≡ 6 → ⊥) → is_sign e ≡ true
  leads_sign n = ap (λ (t : Bool). t || is_sign e) (sym (ne_eqb e 6 n)) ∙ h

  pub leads_low : e ≤ 50
  leads_low =
      decide (eqb e 6)
      (λ t. let z = eqb-true e 6 t in omega arith)
      (λ t. sign_cases (λ n. n ≤ 50) e (lit≤ tt) (lit≤ tt) (lit≤ tt) (lit≤ tt) (leads_sign (eqb-false e 6 t)))

-- a reading of texts, each of which is known
module _ {r : Reading} where
  pub from_one : (f : List ℕ → Reading) {a a' : List ℕ} → r ≡ f a → a ≡ a' → r ≡ f a'
  from_one f e p = e ∙ ap f p

  pub from_two : (f : List ℕ → List ℕ → Reading) {a a' b b' : List ℕ} → r ≡ f a b → a ≡ a' → b ≡ b' → r ≡ f a' b'
  from_two f {a} {a'} {b} {b'} e p q = e ∙ ap (λ (x : List ℕ). f x b) p ∙ ap (f a') q

  pub from_three : (f : List ℕ → List ℕ → List ℕ → Reading) {a a' b b' c c' : List ℕ} → r ≡ f a b c → a ≡ a' → b ≡ b' → c ≡ c' → r ≡ f a' b' c'
  from_three f {a} {a'} {b} {b'} {c} {c'} e p q s = from_two (λ x y. f x y c') (e ∙ ap (f a b) s) p q

-- the lowest element that shares a reading with e is one of the elements, and no higher than e
pub record Lead (e l : ℕ) : Type 0 where
  pub low : 1 ≤ l
  pub high : l ≤ e

lead_by : (e : ℕ) (x y : Bool) → is_coordinate e ≡ x → is_temperature e ≡ y → 1 ≤ e → Lead e (cond x 6 (cond y (e - 1) e))
lead_by e true y p q h = record { low = lit≤ tt; high = omega (arith, coordinate_cases (λ n. 7 ≤ n) e (lit≤ tt) (lit≤ tt) p) }
lead_by e false true p q h = let k = temperature_cases (λ n. 17 ≤ n) e (lit≤ tt) (lit≤ tt) (lit≤ tt) (lit≤ tt) q in record { low = omega arith; high = omega arith }
lead_by e false false p q h = record { low = h; high = le_refl e }

pub lead_is : (e : ℕ) → 1 ≤ e → Lead e (lead e)
lead_is e h = lead_by e _ _ refl refl h

-- elements share the reading of one that shares its own with none lower
pub lead_of_lead : (e : ℕ) → lead (lead e) ≡ lead e
unfolding is_coordinate is_temperature element page
lead_of_lead e = by (is_coordinate e) (is_temperature e) refl refl
  where
    by : (x y : Bool) → is_coordinate e ≡ x → is_temperature e ≡ y → lead (lead e) ≡ lead e
    by true y p q = coordinate_cases (λ k. lead (lead k) ≡ lead k) e refl refl p
    by false true p q = temperature_cases (λ k. lead (lead k) ≡ lead k) e refl refl refl refl q
    by false false p q = rw (p, q, p, q)

pub shared : (ed : Edition) (xs : List ℕ) (e l : ℕ) → l ≡ lead e → reading_of ed xs l ≡ reading_of ed xs e
shared ed xs e l h = ap (item_of ed xs) (ap lead h ∙ lead_of_lead e)

pub lower : (l e : ℕ) → (l ≡ e → ⊥) → l ≤ e → l < e
lower l e n h = ⊎_elim (λ z. absurd (n z)) (λ m. m) (eq-or-lt_of_le h)
