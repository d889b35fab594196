-- Demand 2: the call sign that is shown runs from column 72 to its last non-blank. Assumes nothing.
--     shown_to_last   of an accepted record: what is shown and blanks after it are the columns 72 to 78, and what is shown does not end in a blank
--     hidden          of a refused record nothing is shown
use mathlib.Core.Path.{◌≡◌, refl, sym, ap, ◌∙◌}
use mathlib.Core.Bool.{Bool, true, false, cond, ◌&&◌, and-true}
use mathlib.Core.List.{List, [], ◌∷◌, ◌++◌}
use Prim.Native.Nat.{ℕ, zero, suc}
use native.Mathlib.Omega.{arith}
use lib.ListN.{length, get_or, take, drop}
use Rattle.text.specs.Bytes.{every, between, blank, to_last_non_blank}
use Rattle.layout.specs.declared.Edition.{Edition}
use Rattle.refusals.specs.declared.Refusal.{Refusal}
use Rattle.layout.specs.Page.{text_of, start_of, element, columns, page}
use Rattle.checking.specs.Check.{checked, call_sign_of}
use Rattle.std.proofs.Common.{Ok, Err}

-- s is the part of t up to its last byte that is not blank
pub record ToLast (t s : List ℕ) : Type 0 where
  pub after : List ℕ
  pub parts : t ≡ s ++ after
  pub blanks : blank after ≡ true
  pub ends : (n : ℕ) → length s ≡ suc n → between 32 32 (get_or s n 0) ≡ false

none : (t : List ℕ) → blank t ≡ true → ToLast t []
none t e = record { after = t; parts = refl; blanks = e; ends = λ n h. absurd (omega arith) }

-- one byte more in front of a text that is not blank to its end
one_more : (b : ℕ) (bs s : List ℕ) → blank (b ∷ bs) ≡ false → ToLast bs s → ToLast (b ∷ bs) (b ∷ s)
unfolding every
one_more b bs s e t = record { after = t.after; parts = ap (λ (r : List ℕ). b ∷ r) t.parts; blanks = t.blanks; ends = last s t.parts t.ends }
  where
    last : (s : List ℕ) → bs ≡ s ++ t.after → ((n : ℕ) → length s ≡ suc n → between 32 32 (get_or s n 0) ≡ false) → (n : ℕ) → length (b ∷ s) ≡ suc n → between 32 32 (get_or (b ∷ s) n 0) ≡ false
    last [] p f zero h = sym (and-true (between 32 32 b)) ∙ ap (λ (x : Bool). between 32 32 b && x) (sym (ap blank p ∙ t.blanks)) ∙ e
    last (c ∷ s) p f zero h = absurd (omega arith)
    last s p f (suc n) h = f n (omega arith)

step : (b : ℕ) (bs : List ℕ) (x : Bool) → blank (b ∷ bs) ≡ x → ToLast bs (to_last_non_blank bs) → ToLast (b ∷ bs) (cond x [] (b ∷ to_last_non_blank bs))
step b bs true e t = none (b ∷ bs) e
step b bs false e t = one_more b bs (to_last_non_blank bs) e t

to_last : (t : List ℕ) → ToLast t (to_last_non_blank t)
unfolding to_last_non_blank every
to_last [] = none [] refl
to_last (b ∷ bs) = step b bs (blank (b ∷ bs)) refl (to_last bs)

pub shown_to_last : (xs : List ℕ) (ed : Edition) → checked xs ≡ Ok ed → ToLast (take 7 (drop 71 xs)) (call_sign_of (checked xs) xs)
unfolding call_sign_of text_of start_of element columns page
shown_to_last xs ed e = rw e (to_last (take 7 (drop 71 xs)))

pub hidden : (xs : List ℕ) (r : Refusal) → checked xs ≡ Err r → call_sign_of (checked xs) xs ≡ []
unfolding call_sign_of
hidden xs r e = rw e
