-- An element of more columns than one is blank or one of its texts, where its columns, its bonds and its limits hold. Assumes nothing.
use mathlib.Core.Path.{◌≡◌, refl, sym}
use mathlib.Core.Bool.{Bool, true, false, cond, ◌&&◌, ◌||◌, true≢false}
use mathlib.Core.List.{List, [], ◌∷◌}
use mathlib.Core.Logic.{⊎_elim}
use Prim.Native.Nat.{ℕ, suc, ◌+◌, ◌<◌, ◌≤◌, zero-le, suc-le-suc}
use native.Mathlib.Omega.{arith}
use borrow.Author.Tests.{eqb-true, ne_eqb, leb-true, leb-false, le-leb}
use lib.Dec.{eqb, leb}
use lib.ListN.{length, get_or, drop}
use Rattle.text.specs.Bytes.{every, between, either, blank, digits, number, word, run}
use Rattle.text.specs.LegalTexts.{allows, in_call_sign, call_sign}
use Rattle.text.specs.declared.LegalTexts.{LegalTexts}
use Rattle.text.specs.declared.LegalTexts.TheVariants.{Nothing, Printable, Letters, CallSign, DigitOr, Within, Either, OneOf}
use Rattle.text.proofs.Ways.{and_first, and_second, second_holds, decide}
use Rattle.text.proofs.Among.{either_half}
use Rattle.text.proofs.Ranges.{wider}
use Rattle.text.proofs.Order.{as_words, as_numbers, most}
use Rattle.numerals.specs.Numerals.{spelled}
use Rattle.columns.specs.Tables.{allowed, joined, cell_of, fits}
use Rattle.columns.proofs.Bonds.{after_byte, blanks, whole}
use Rattle.glance.specs.Tests.{in_limit}
use Rattle.glance.specs.Limits.{in_columns, nines, top_of, limit_of, limits}

-- a number is spelled in w columns
abbrev pub spells : ℕ → ℕ → Bool
spells w n = digits (spelled 10 48 w n) && (eqb w (length (spelled 10 48 w n)) && eqb (number (spelled 10 48 w n)) n)

-- digits, against a number as its columns stand
module _ (t : List ℕ) (d : digits t ≡ true) (n : ℕ) (s : spells (length t) n ≡ true) where
  long : length t ≡ length (spelled 10 48 (length t) n)
  long = eqb-true _ _ (and_first _ _ (and_second (digits (spelled 10 48 (length t) n)) _ s))

  same : number (spelled 10 48 (length t) n) ≡ n
  same = eqb-true _ _ (and_second (eqb (length t) (length (spelled 10 48 (length t) n))) _ (and_second (digits (spelled 10 48 (length t) n)) _ s))

  short : length (spelled 10 48 (length t) n) ≡ length t
  short = sym long

  pub at_most : word t ≤ in_columns (length t) n → number t ≤ n
  at_most h = omega (arith, same, as_words t _ long d (and_first _ _ s) h)

  pub at_least : in_columns (length t) n ≤ word t → n ≤ number t
  at_least h = omega (arith, same, as_words _ t short (and_first _ _ s) d h)

  pub reaching : n ≤ number t → in_columns (length t) n ≤ word t
  reaching h = as_numbers _ t short (and_first _ _ s) d (omega (arith, same))

-- the bond after place p inside an element
abbrev pub wanted : LegalTexts → ℕ → ℕ
wanted CallSign p = cond (leb p 1) 61 62
wanted Nothing p = 61
wanted Printable p = 61
wanted Letters p = 61
wanted (DigitOr x) p = 61
wanted (Within a b) p = 61
wanted (Either a b c d) p = 61
wanted (OneOf a b c d) p = 61

-- any digits, letters or call signs will do
abbrev pub unlimited : ℕ → LegalTexts → Bool
unlimited w (Within a b) = eqb a 0 && leb (nines w) b
unlimited w Nothing = false
unlimited w Printable = false
unlimited w Letters = true
unlimited w CallSign = true
unlimited w (DigitOr x) = false
unlimited w (Either a b c d) = false
unlimited w (OneOf a b c d) = false

-- the texts that wider elements have, in so many columns
abbrev pub told : LegalTexts → ℕ → Bool
told CallSign w = leb 3 w
told Letters w = leb 2 w
told (Within a b) w = leb 2 w && (spells w 0 && (spells w a && spells w b))
told (Either a b c d) w = (eqb a 0 && leb 2 w) && (spells w (b + 1) && (spells w c && spells w d))
told Nothing w = false
told Printable w = false
told (DigitOr x) w = false
told (OneOf a b c d) w = false

-- digits that lie within the limits are allowed
module _ (t : List ℕ) (d : digits t ≡ true) where
  top_holds : (b : ℕ) → spells (length t) b ≡ true → leb (word t) (top_of (length t) b) ≡ true → number t ≤ b
  top_holds b s h =
      decide (leb (nines (length t)) b) (λ e. omega (arith, most t d, leb-true (nines (length t)) b e))
      (λ e. at_most t d b s (leb-true (word t) (in_columns (length t) b) (rw e at h)))

  any_digits : (a b : ℕ) → unlimited (length t) (Within a b) ≡ true → allows (Within a b) t ≡ true
  unfolding allows
  any_digits a b h =
      rw (d, le-leb a (number t) (omega (arith, eqb-true a 0 (and_first _ _ h))), le-leb (number t) b (omega (arith, most t d, leb-true (nines (length t)) b (and_second (eqb a 0) _ h))))

  within : (a b : ℕ) → told (Within a b) (length t) ≡ true → limits (limit_of (length t) (Within a b)) (word t) ≡ true → allows (Within a b) t ≡ true
  unfolding allows limit_of in_limit
  within a b k h =
      let s = and_second (leb 2 (length t)) _ k in
      let r = and_second (spells (length t) 0) _ s in
      let high = top_holds b (and_second (spells (length t) a) _ r) (and_first _ _ h) in
      let floor : in_columns (length t) 0 ≤ word t = reaching t d 0 (and_first _ _ s) zero-le in
      let low : in_columns (length t) a ≤ word t = leb-true _ _ (rw (le-leb (in_columns (length t) 0) (word t) floor) at (and_second (leb (word t) (top_of (length t) b)) _ h)) in
      rw (d, le-leb a (number t) (at_least t d a (and_first _ _ r) low), le-leb (number t) b high)

  either_run : (b c e : ℕ) → told (Either 0 b c e) (length t) ≡ true → limits (limit_of (length t) (Either 0 b c e)) (word t) ≡ true → allows (Either 0 b c e) t ≡ true
  unfolding allows limit_of in_limit
  either_run b c e k h =
      let s = and_second (eqb 0 0 && leb 2 (length t)) _ k in
      let r = and_second (spells (length t) (b + 1)) _ s in
      let high = top_holds e (and_second (spells (length t) c) _ r) (and_first _ _ h) in
      let rest = and_second (leb (word t) (top_of (length t) e)) _ h in
      rw d (decide (leb (number t) b) (λ l. rw (le-leb 0 (number t) zero-le, l))
      (λ l. let far : in_columns (length t) (b + 1) ≤ word t = reaching t d (b + 1) (and_first _ _ s) (omega (arith, leb-false (number t) b l)) in
      let low : in_columns (length t) c ≤ word t = leb-true _ _ (rw (le-leb (in_columns (length t) (b + 1)) (word t) far) at rest) in
      second_holds (between 0 b (number t)) _ (rw (le-leb c (number t) (at_least t d c (and_first _ _ r) low), le-leb (number t) e high))))

-- a call sign: blanks only after its last byte, and three bytes at least
not_sign : (b : ℕ) → eqb b 32 ≡ true → in_call_sign b ≡ false
not_sign b e = rw (eqb-true b 32 e)

sign_tail : (bond : ℕ → ℕ) → ((p : ℕ) → 61 ≤ bond p) → (b : ℕ) (t : List ℕ) → ((p : ℕ) → p < suc (length t) → (eqb (get_or (b ∷ t) p 0) 32 || in_call_sign (get_or (b ∷ t) p 0)) ≡ true) →
    ((p : ℕ) → p < length t → joined (bond p) (get_or (b ∷ t) p 0) (get_or t p 0) ≡ true) → blank (drop (run in_call_sign (b ∷ t)) (b ∷ t)) ≡ true
unfolding run every
sign_tail bond close b [] f j = decide (eqb b 32) (λ e. rw (not_sign b e) (blanks bond close b [] j e)) (λ e. let h : in_call_sign b ≡ true = rw e at (f 0 (suc-le-suc zero-le)) in rw h)
sign_tail bond close b (n ∷ t) f j =
    decide (eqb b 32) (λ e. rw (not_sign b e) (blanks bond close b (n ∷ t) j e))
    (λ e. let h : in_call_sign b ≡ true = rw e at (f 0 (suc-le-suc zero-le)) in
    rw h (sign_tail (λ p. bond (suc p)) (λ p. close (suc p)) n t (λ p l. f (suc p) (suc-le-suc l)) (λ p l. j (suc p) (suc-le-suc l))))

signs : (bond : ℕ → ℕ) → ((p : ℕ) → 61 ≤ bond p) → bond 0 ≡ 61 → bond 1 ≡ 61 → (t : List ℕ) → 3 ≤ length t → ((p : ℕ) → p < length t → (eqb (get_or t p 0) 32 || in_call_sign (get_or t p 0)) ≡ true) →
    ((p : ℕ) → suc p < length t → joined (bond p) (get_or t p 0) (get_or t (suc p) 0) ≡ true) → (blank t || call_sign t) ≡ true
unfolding run
signs bond close u v [] l f j = absurd (omega arith)
signs bond close u v (a ∷ []) l f j = absurd (omega arith)
signs bond close u v (a ∷ b ∷ []) l f j = absurd (omega arith)
signs bond close u v (a ∷ b ∷ c ∷ t) l f j =
    decide (eqb a 32) (λ e. rw (blanks bond close a (b ∷ c ∷ t) (λ p h. j p (suc-le-suc h)) e))
    (λ e. let e2 = after_byte a b (rw u at (j 0 (omega arith))) e in
    let e3 = after_byte b c (rw v at (j 1 (omega arith))) e2 in
    let h1 : in_call_sign a ≡ true = rw e at (f 0 (omega arith)) in
    let h2 : in_call_sign b ≡ true = rw e2 at (f 1 (omega arith)) in
    let h3 : in_call_sign c ≡ true = rw e3 at (f 2 (omega arith)) in
    let tail : blank (drop (run in_call_sign (a ∷ b ∷ c ∷ t)) (a ∷ b ∷ c ∷ t)) ≡ true = sign_tail bond close a (b ∷ c ∷ t) f (λ p h. j p (suc-le-suc h)) in
    let three : leb 3 (run in_call_sign (a ∷ b ∷ c ∷ t)) ≡ true = rw (h1, h2, h3) (le-leb 3 (suc (suc (suc (run in_call_sign t)))) (omega arith)) in
    second_holds (blank (a ∷ b ∷ c ∷ t)) _ (rw (three, tail)))

call_bond : (p : ℕ) → 61 ≤ cond (leb p 1) 61 62
call_bond p = decide (leb p 1) (λ e. rw e (omega arith)) (λ e. rw e (omega arith))

-- columns that go together, each blank or in one run
twice : (x : Bool) → (x || x) ≡ true → x ≡ true
twice true h = refl
twice false h = h

one_run : (lo hi : ℕ) (t : List ℕ) → 2 ≤ length t → ((p : ℕ) → p < length t → allowed lo hi lo hi (get_or t p 0) ≡ true) →
    ((p : ℕ) → suc p < length t → joined 61 (get_or t p 0) (get_or t (suc p) 0) ≡ true) → (blank t || every (between lo hi) t) ≡ true
unfolding allowed
one_run lo hi [] l f j = absurd (omega arith)
one_run lo hi (b ∷ t) l f j =
    decide (blank (b ∷ t)) (λ e. rw e)
    (λ e. second_holds (blank (b ∷ t)) _ (wider (either lo hi lo hi) (between lo hi) (λ x h. twice (between lo hi x) h) (b ∷ t) (rw e at (whole (either lo hi lo hi) b t f (λ p h. j p (suc-le-suc h))))))

module _ (t : List ℕ) where
  then_allowed : (q : Bool) (s : LegalTexts) → (blank t || q) ≡ true → (q ≡ true → allows s t ≡ true) → (blank t || allows s t) ≡ true
  then_allowed q s h f = ⊎_elim (λ b. rw b) (λ d. second_holds (blank t) _ (f d)) (either_half (blank t) q h)

  pub legal_wide : (s : LegalTexts) → told s (length t) ≡ true → ((p : ℕ) → p < length t → fits (cell_of (length t) s) (get_or t p 0) ≡ true) →
      ((p : ℕ) → suc p < length t → joined (wanted s p) (get_or t p 0) (get_or t (suc p) 0) ≡ true) →
      (unlimited (length t) s || limits (limit_of (length t) s) (word t)) ≡ true → (blank t || allows s t) ≡ true
  unfolding cell_of allows allowed
  legal_wide CallSign k f j n = signs (λ p. cond (leb p 1) 61 62) call_bond refl refl t (leb-true 3 (length t) k) f j
  legal_wide Letters k f j n = one_run 65 90 t (leb-true 2 (length t) k) f j
  legal_wide (Within a b) k f j n =
      let l = leb-true 2 (length t) (and_first _ _ k) in
      then_allowed (digits t) (Within a b) (one_run 48 57 t l (λ p h. rw (ne_eqb (length t) 1 (λ e. omega arith)) at (f p h)) j)
      (λ d. ⊎_elim (any_digits t d a b) (within t d a b k) (either_half (unlimited (length t) (Within a b)) _ n))
  legal_wide (Either a b e g) k f j n =
      let l = leb-true 2 (length t) (and_second (eqb a 0) _ (and_first _ _ k)) in
      let z : a ≡ 0 = eqb-true a 0 (and_first _ _ (and_first _ _ k)) in
      rw z (then_allowed (digits t) (Either 0 b e g) (one_run 48 57 t l (λ p h. rw (ne_eqb (length t) 1 (λ e. omega arith)) at (f p h)) j) (λ d. either_run t d b e g (rw z at k) (rw z at n)))
  legal_wide Nothing k f j n = absurd (true≢false (sym k))
  legal_wide Printable k f j n = absurd (true≢false (sym k))
  legal_wide (DigitOr x) k f j n = absurd (true≢false (sym k))
  legal_wide (OneOf a b d e) k f j n = absurd (true≢false (sym k))
