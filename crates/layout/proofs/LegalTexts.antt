-- The legal texts of an element, as a match over its number gives them: those that are the same in all editions, the runs of flags, and no element. Assumes
-- nothing.
use mathlib.Core.Path.{◌≡◌, refl, sym, ap, ◌∙◌}
use mathlib.Core.List.{List}
use Prim.Native.Nat.{ℕ, zero, suc, ◌+◌, ◌-◌, ◌<◌, ◌≤◌}
use native.Mathlib.Nat.{add-zero}
use native.Mathlib.Omega.{arith}
use lib.ListN.{get_or, take, drop, replicate, get_or-replicate, get_or-eq_default}
use lib.Seq.{get_or-take, get_or-drop}
use Rattle.text.specs.declared.LegalTexts.{LegalTexts}
use Rattle.text.specs.declared.LegalTexts.TheVariants.{Nothing}
use Rattle.layout.specs.declared.Edition.{Edition}
use Rattle.layout.specs.declared.Edition.TheVariants.{One, Three, Four}
use Rattle.layout.specs.Page.{Element, flag, later_flag, page, none, elements, element, in_edition, legal_texts_in, legal_texts}

-- texts that are the same in all editions
pub in_all : (ed : Edition) (s : LegalTexts) → s ≡ in_edition ed s s s
in_all One s = refl
in_all Three s = refl
in_all Four s = refl

-- the n elements from k on
abbrev pub part : ℕ → ℕ → List Element
part k n = take n (drop k elements)

pub in_part : (k n e : ℕ) → k ≤ e → e < k + n → get_or (part k n) (e - k) none ≡ element e
unfolding element
in_part k n e l h =
    let place : k + (e - k) ≡ e = omega arith in
    get_or-take n (drop k elements) (e - k) none (omega arith) ∙ get_or-drop k elements (e - k) none ∙ ap (λ (i : ℕ). get_or elements i none) place

-- where antt computes that they are one and the same, each of them is that one
module _ (ed : Edition) (e : ℕ) (r : LegalTexts) where
  run : (k n : ℕ) (x : Element) → part k n ≡ replicate n x → k ≤ e → e < k + n → r ≡ legal_texts_in ed x → r ≡ legal_texts ed e
  run k n x same l h g =
      let is : x ≡ element e = sym (get_or-replicate n (e - k) x none (omega arith)) ∙ ap (λ (p : List Element). get_or p (e - k) none) (sym same) ∙ in_part k n e l h in
      g ∙ ap (legal_texts_in ed) is

  -- elements 66 to 85 are flags, and 94 to 101 flags that edition 1 does not have
  pub flags : 66 ≤ e → e < 86 → r ≡ legal_texts_in ed flag → r ≡ legal_texts ed e
  unfolding page
  flags l h g = run 66 20 flag refl l h g

  pub later_flags : 94 ≤ e → e < 102 → r ≡ legal_texts_in ed later_flag → r ≡ legal_texts ed e
  unfolding page
  later_flags l h g = run 94 8 later_flag refl l h g

-- past the last element there is nothing to write
pub past_last : (ed : Edition) (e : ℕ) → 102 ≤ e → Nothing ≡ legal_texts ed e
unfolding element page
past_last ed e h = rw (get_or-eq_default elements none h) (in_all ed Nothing)

-- that e is none of the n numbers from k on, with what else is known, as the arms of a match leave it
module _ (e k : ℕ) (R : Type 0) where
  abbrev pub NoneFrom : ℕ → Type 0
  NoneFrom zero = R
  NoneFrom (suc n) = NoneFrom n × (e ≡ k + n → ⊥)

  pub others : (n : ℕ) → NoneFrom n → R
  others zero h = h
  others (suc n) h = others n h.0

  pub behind : (n : ℕ) → NoneFrom n → k ≤ e → k + n ≤ e
  behind zero h l = rw add-zero l
  behind (suc n) h l = omega (arith, behind n h.0 l, h.1)
