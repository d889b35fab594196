-- A number of no element: there is nothing written there, and nothing that is not legal. Assumes nothing.
use mathlib.Core.Path.{◌≡◌, refl, sym, ap}
use mathlib.Core.Bool.{true}
use mathlib.Core.List.{List, []}
use Prim.Native.Nat.{ℕ, zero, suc, ◌+◌, ◌<◌, ◌≤◌}
use native.Mathlib.Omega.{arith}
use borrow.Author.Tests.{ne_eqb}
use lib.Dec.{lit≤}
use lib.ListN.{length, take, drop_of_length-le, get_or-eq_default}
use lib.Seq.{take_all}
use Rattle.text.specs.Bytes.{every}
use Rattle.layout.specs.declared.Edition.{Edition}
use Rattle.layout.specs.declared.Edition.TheVariants.{One, Three, Four}
use Rattle.layout.specs.Editions.{length_of, last_of}
use Rattle.layout.specs.Page.{page, none, elements, element, columns, start_of, width_of, text_of, legal}
use Rattle.layout.proofs.Columns.{start_rises, filled}

-- there is nothing to take of nothing
pub take_none : (n : ℕ) → ◌≡◌ {A = List ℕ} [] (take n [])
take_none zero = refl
take_none (suc n) = refl

-- past element 101 there is none
pub text_past : (xs : List ℕ) (e : ℕ) → 101 < e → [] ≡ text_of e xs
unfolding text_of element page
text_past xs e h = rw (get_or-eq_default elements none h)

pub width_past : (e : ℕ) → 101 < e → 0 ≡ width_of e
unfolding element page
width_past e h = rw (get_or-eq_default elements none h)

pub start_past : (e : ℕ) → 101 < e → 159 ≡ start_of e
unfolding start_of columns page
start_past e h = ap columns (sym (take_all e elements h))

pub last_above : (ed : Edition) → 85 ≤ last_of ed
last_above One = lit≤ tt
last_above Three = lit≤ tt
last_above Four = lit≤ tt

module _ (ed : Edition) (xs : List ℕ) where
  -- the columns of an element that the edition lacks are past the record's end
  pub text_none : length xs ≡ length_of ed → (e : ℕ) → last_of ed < e → text_of e xs ≡ []
  unfolding text_of
  text_none f e h =
      let l : length xs ≤ start_of e = rw (f, ← filled ed) (start_rises (last_of ed + 1) e (omega arith)) in
      rw (drop_of_length-le xs l) (sym (take_none (width_of e)))

  pub legal_none : length xs ≡ length_of ed → (e : ℕ) → last_of ed < e → legal ed xs e ≡ true
  unfolding legal every
  legal_none f e h =
      let k = last_above ed in
      let a : e ≡ 1 → ⊥ = λ z. omega arith in
      let b : e ≡ 65 → ⊥ = λ z. omega arith in
      rw (text_none f e h, ne_eqb e 1 a, ne_eqb e 65 b)

  pub legal_zero : legal ed xs 0 ≡ true
  unfolding legal text_of element every
  legal_zero = refl
