-- A tie looks at the texts of its own elements and at nothing else: two records with the same texts there keep it or break it together. Assumes nothing.
use mathlib.Core.Path.{◌≡◌, refl}
use mathlib.Core.Bool.{Bool, true, false, true≢false}
use mathlib.Core.List.{List, [], ◌∷◌}
use Prim.Native.Nat.{ℕ, zero, suc}
use borrow.Author.Tests.{leb-true, leb-false}
use lib.Dec.{eqb, leb}
use lib.ListN.{length, get_or, get_or-eq_default}
use Rattle.text.specs.Bytes.{every}
use Rattle.text.proofs.Below.{every_below, passes_below}
use Rattle.text.proofs.Ways.{and_first, and_second, decide}
use Rattle.layout.specs.declared.Edition.{Edition}
use Rattle.layout.specs.Page.{text_of}
use Rattle.ties.specs.Ties.{place_tie, octant_tie, sign_tie, digit_tie, wind_tie, day_tie, ties, tie}

-- the elements of each tie, from the first on
abbrev pub looks : List (List ℕ)
looks =
    (6 ∷ 7 ∷ 8 ∷ []) ∷
    (6 ∷ 8 ∷ []) ∷
    (16 ∷ 17 ∷ []) ∷
    (18 ∷ 19 ∷ []) ∷
    (28 ∷ 29 ∷ []) ∷
    (50 ∷ 51 ∷ []) ∷
    (1 ∷ 17 ∷ 18 ∷ 19 ∷ 29 ∷ 50 ∷ 51 ∷ []) ∷
    (15 ∷ 14 ∷ []) ∷
    (93 ∷ 14 ∷ []) ∷
    (2 ∷ 3 ∷ 4 ∷ []) ∷
    []

abbrev pub elements_in : ℕ → List ℕ
elements_in k = get_or ([] ∷ looks) k []

module _ (ed : Edition) (xs ys : List ℕ) where
  -- the same texts in some elements
  infixr 4 ◌and◌
  data Alike : List ℕ → Type 0 where
    none : Alike []
    ◌and◌ : {e : ℕ} {es : List ℕ} → text_of e xs ≡ text_of e ys → Alike es → Alike (e ∷ es)

  two : (f : List ℕ → List ℕ → Bool) {a b : ℕ} → Alike (a ∷ b ∷ []) → f (text_of a xs) (text_of b xs) ≡ f (text_of a ys) (text_of b ys)
  two f (p and (q and none)) = rw (p, q)

  three : (f : List ℕ → List ℕ → List ℕ → Bool) {a b c : ℕ} → Alike (a ∷ b ∷ c ∷ []) → f (text_of a xs) (text_of b xs) (text_of c xs) ≡ f (text_of a ys) (text_of b ys) (text_of c ys)
  three f (p and (q and (r and none))) = rw (p, q, r)

  digits : {a b c d e f g : ℕ} → Alike (a ∷ b ∷ c ∷ d ∷ e ∷ f ∷ g ∷ []) →
      digit_tie (text_of a xs) (text_of b xs) (text_of c xs) (text_of d xs) (text_of e xs) (text_of f xs) (text_of g xs) ≡ digit_tie (text_of a ys) (text_of b ys) (text_of c ys) (text_of d ys) (text_of e ys) (text_of f ys) (text_of g ys)
  digits (p and (q and (r and (s and (t and (u and (v and none))))))) = rw (p, q, r, s, t, u, v)

  -- two lists of tests, each of which goes by the texts of the elements beside it
  infixr 4 ◌then◌
  data Agree : List Bool → List Bool → List (List ℕ) → Type 0 where
    last : Agree [] [] []
    ◌then◌ : {t u : Bool} {ts us : List Bool} {es : List ℕ} {ess : List (List ℕ)} → (Alike es → t ≡ u) → Agree ts us ess → Agree (t ∷ ts) (u ∷ us) (es ∷ ess)

  agree_at : {ts us : List Bool} {ess : List (List ℕ)} → Agree ts us ess → (k : ℕ) → Alike (get_or ess k []) → get_or ts k true ≡ get_or us k true
  agree_at last k h = refl
  agree_at (f then a) zero h = f h
  agree_at (f then a) (suc k) h = agree_at a k h

  all_agree : Agree (ties ed xs) (ties ed ys) looks
  all_agree =
      three place_tie then
      two (octant_tie ed) then
      two sign_tie then
      two sign_tie then
      two sign_tie then
      two sign_tie then
      digits then
      two wind_tie then
      two wind_tie then
      three day_tie then
      last

  -- where the texts of certain elements are the same, so is each tie that looks at no others
  pub same_tie : (same : ℕ → Bool) → ((e : ℕ) → same e ≡ true → text_of e xs ≡ text_of e ys) → (k : ℕ) → every same (elements_in k) ≡ true → tie ed xs k ≡ tie ed ys k
  unfolding tie every
  same_tie same alike k h = agree_at ((λ s. refl) then all_agree) k (each (elements_in k) h)
    where
      each : (es : List ℕ) → every same es ≡ true → Alike es
      each [] h = none
      each (e ∷ es) h = alike e (and_first _ _ h) and each es (and_second (same e) _ h)

-- no tie but the second goes by the edition
pub same_in : (ed to : Edition) (xs : List ℕ) (k : ℕ) → eqb k 2 ≡ false → tie ed xs k ≡ tie to xs k
unfolding tie
same_in ed to xs zero h = refl
same_in ed to xs (suc zero) h = refl
same_in ed to xs (suc (suc zero)) h = absurd (true≢false h)
same_in ed to xs (suc (suc (suc k))) h = refl

-- what a test says of each tie by its elements, and of no elements, it says of every number
pub of_each : (test : ℕ → Bool) → every_below (length ([] ∷ looks)) test ≡ true → ((k : ℕ) → elements_in k ≡ [] → test k ≡ true) → (k : ℕ) → test k ≡ true
of_each test h f k =
    decide (leb (length ([] ∷ looks)) k) (λ t. f k (get_or-eq_default ([] ∷ looks) [] (leb-true _ k t))) (λ t. passes_below (length ([] ∷ looks)) test h k (leb-false _ k t))
