-- What a bond says of two neighbours, and of all the columns of a text. Assumes nothing.
use mathlib.Core.Path.{◌≡◌, refl, sym, ◌∙◌}
use mathlib.Core.Bool.{Bool, true, false, not, ◌&&◌, ◌||◌, true≢false}
use mathlib.Core.List.{List, [], ◌∷◌}
use Prim.Native.Nat.{ℕ, suc, ◌<◌, ◌≤◌, zero-le, suc-le-suc}
use native.Mathlib.Omega.{arith}
use borrow.Author.Tests.{eqb-true, eqb-false, lt-leb}
use lib.Dec.{eqb}
use lib.ListN.{length, get_or}
use Rattle.text.specs.Bytes.{every, blank}
use Rattle.text.proofs.Ways.{decide, second_holds}
use Rattle.text.proofs.Blanks.{blank_byte, not_blank}
use Rattle.columns.specs.Tables.{joined}

-- after a blank a blank; and, of the closer bond, after a byte a byte
pub after_blank : (bond b n : ℕ) → 61 ≤ bond → joined bond b n ≡ true → eqb b 32 ≡ true → eqb n 32 ≡ true
unfolding joined
after_blank bond b n l j e = decide (eqb n 32) (λ f. f) (λ f. absurd (true≢false (sym (rw (lt-leb bond 60 (omega arith), e, f) at j) ∙ by (eqb bond 61))))
  where
    by : (x : Bool) → (not x && false) ≡ false
    by true = refl
    by false = refl

pub after_byte : (b n : ℕ) → joined 61 b n ≡ true → eqb b 32 ≡ false → eqb n 32 ≡ false
unfolding joined
after_byte b n j e = decide (eqb n 32) (λ f. absurd (true≢false (sym (rw (e, f) at j)))) (λ f. f)

-- two neighbours that go together are both blank or neither is
pub same_blank : (b n : ℕ) → joined 61 b n ≡ true → eqb b 32 ≡ eqb n 32
same_blank b n j = decide (eqb b 32) (λ e. e ∙ sym (after_blank 61 b n (omega arith) j e)) (λ e. e ∙ sym (after_byte b n j e))

-- a text that begins with a blank is blank, where each of its bonds is at least '='
pub blanks : (bond : ℕ → ℕ) → ((p : ℕ) → 61 ≤ bond p) → (b : ℕ) (t : List ℕ) → ((p : ℕ) → p < length t → joined (bond p) (get_or (b ∷ t) p 0) (get_or t p 0) ≡ true) → eqb b 32 ≡ true →
    blank (b ∷ t) ≡ true
unfolding every
blanks bond close b [] j e = rw (blank_byte b (eqb-true b 32 e))
blanks bond close b (n ∷ t) j e =
    rw (blank_byte b (eqb-true b 32 e)) (blanks (λ p. bond (suc p)) (λ p. close (suc p)) n t (λ p h. j (suc p) (suc-le-suc h)) (after_blank (bond 0) b n (close 0) (j 0 (suc-le-suc zero-le)) e))

-- one that does not passes the test at every byte, where each bond is '=' and each byte is blank or passes it
bytes : (q : ℕ → Bool) (b : ℕ) (t : List ℕ) → ((p : ℕ) → p < suc (length t) → (eqb (get_or (b ∷ t) p 0) 32 || q (get_or (b ∷ t) p 0)) ≡ true) →
    ((p : ℕ) → p < length t → joined 61 (get_or (b ∷ t) p 0) (get_or t p 0) ≡ true) → eqb b 32 ≡ false → every q (b ∷ t) ≡ true
unfolding every
bytes q b [] f j e = let h : q b ≡ true = rw e at (f 0 (suc-le-suc zero-le)) in rw h
bytes q b (n ∷ t) f j e =
    let h : q b ≡ true = rw e at (f 0 (suc-le-suc zero-le)) in
    rw h (bytes q n t (λ p l. f (suc p) (suc-le-suc l)) (λ p l. j (suc p) (suc-le-suc l)) (after_byte b n (j 0 (suc-le-suc zero-le)) e))

pub whole : (q : ℕ → Bool) (b : ℕ) (t : List ℕ) → ((p : ℕ) → p < suc (length t) → (eqb (get_or (b ∷ t) p 0) 32 || q (get_or (b ∷ t) p 0)) ≡ true) →
    ((p : ℕ) → p < length t → joined 61 (get_or (b ∷ t) p 0) (get_or t p 0) ≡ true) → (blank (b ∷ t) || every q (b ∷ t)) ≡ true
whole q b t f j =
    decide (eqb b 32) (λ e. rw (blanks (λ p. 61) (λ p. omega arith) b t j e)) (λ e. second_holds (blank (b ∷ t)) _ (bytes q b t f j e))

-- so the first column of some that go together says whether they are blank
pub first_says : (t : List ℕ) → 1 ≤ length t → ((p : ℕ) → suc p < length t → joined 61 (get_or t p 0) (get_or t (suc p) 0) ≡ true) → blank t ≡ eqb (get_or t 0 0) 32
first_says [] l j = absurd (omega arith)
first_says (b ∷ t) l j =
    decide (eqb b 32) (λ e. blanks (λ p. 61) (λ p. omega arith) b t (λ p h. j p (suc-le-suc h)) e ∙ sym e) (λ e. not_blank (b ∷ t) 0 l (eqb-false b 32 e) ∙ sym e)
