-- From sixteen columns against rows of characters to columns of the page, where the rows are the page's. Assumes nothing.
use mathlib.Core.Path.{◌≡◌, refl, sym, ap, ◌∙◌, subst}
use mathlib.Core.Bool.{Bool, true, false, not, ◌||◌, beq}
use mathlib.Core.List.{List, map}
use Prim.Native.Nat.{ℕ, ◌+◌, ◌-◌, ◌<◌, ◌≤◌}
use native.Mathlib.Nat.{le_refl}
use native.Mathlib.Omega.{arith}
use borrow.Author.Tests.{ltb-true, ltb-false}
use lib.Dec.{eqb, ltb}
use lib.ListN.{length, get_or, drop, get_or-map}
use lib.Seq.{get_or-take, get_or-drop}
use Rattle.layout.specs.declared.Edition.{Edition}
use Rattle.layout.specs.declared.Edition.TheVariants.{One, Three, Four}
use Rattle.std.proofs.lemmas.Bool.{or_parts, not-false}
use Rattle.columns.specs.declared.Table.{Table}
use Rattle.columns.specs.Tables.{allowed, joined, Cell, cell, cells, bonds, cell_at, bond_at, fits, Column, Range, cut, Rows, Shared, Own, Columns}
use Rattle.text.proofs.Ways.{second_holds}
use Rattle.columns.proofs.Cells.{first_run, second_run}

-- column j of the sixteen, against the rows
pub record Judged (xs : List ℕ) (at : ℕ) (r : Table) (j : ℕ) : Type 0 where
  pub held : get_or r.low j 0 ≤ get_or r.high j 0 → get_or r.also j 0 ≤ get_or r.to j 0 → allowed (get_or r.low j 0) (get_or r.high j 0) (get_or r.also j 0) (get_or r.to j 0) (get_or xs (at + j) 0) ≡ true
  pub bound : joined (get_or r.bond j 0) (get_or xs (at + j) 0) (get_or xs (at + j + 1) 0) ≡ true

-- what the code's two tests of it say
pub judge : {xs : List ℕ} {r : Table} {at j : ℕ} (o a : Bool) →
    (get_or r.low j 0 ≤ get_or r.high j 0 → get_or r.also j 0 ≤ get_or r.to j 0 → o ≡ not (allowed (get_or r.low j 0) (get_or r.high j 0) (get_or r.also j 0) (get_or r.to j 0) (get_or xs (at + j) 0))) →
    a ≡ not (joined (get_or r.bond j 0) (get_or xs (at + j) 0) (get_or xs (at + j + 1) 0)) → (o || a) ≡ false → Judged xs at r j
judge o a f g z = let p = or_parts o a z in record { held = λ l m. not-false _ (sym (f l m) ∙ p.0); bound = not-false _ (sym g ∙ p.1) }

-- of two tests neither finds anything
pub neither_of : {P Q : Type 0} (x y : Bool) → (x ≡ false → P) → (y ≡ false → Q) → (x || y) ≡ false → P × Q
neither_of x y f g z = let p = or_parts x y z in (f p.0, g p.1)

cut_at : (t : List ℕ) (at k : ℕ) → k < 16 → get_or (cut at t) k 0 ≡ get_or t (at + k) 0
cut_at t at k h = get_or-take 16 (drop at t) k 0 h ∙ get_or-drop at t k 0

module _ (ed : Edition) (xs : List ℕ) (at : ℕ) where
  -- a field of a column's cell, from its row
  field : (f : Cell → ℕ) → f (cell 0 0 0 0) ≡ 0 → (t : List ℕ) → t ≡ cut at (map f (cells ed)) → (k : ℕ) → k < 16 → get_or t k 0 ≡ f (cell_at ed (at + k))
  unfolding cell_at
  field f z t e k h =
      ap (λ (s : List ℕ). get_or s k 0) e ∙ cut_at (map f (cells ed)) at k h ∙ ap (get_or (map f (cells ed)) (at + k)) (sym z) ∙ get_or-map f (cells ed) (at + k) (cell 0 0 0 0)

  pub range_of : (r : Table) → ((j : ℕ) → j < 16 → Judged xs at r j) → Rows ed at r → Range ed xs at (at + 16)
  unfolding bond_at
  range_of r p e k l h =
      let j : k - at < 16 = omega arith in
      let a : get_or r.low (k - at) 0 ≡ (cell_at ed (at + (k - at))).low = field (λ c. c.low) refl r.low (cc) (k - at) j in
      let b : get_or r.high (k - at) 0 ≡ (cell_at ed (at + (k - at))).high = field (λ c. c.high) refl r.high (cc) (k - at) j in
      let c : get_or r.also (k - at) 0 ≡ (cell_at ed (at + (k - at))).also = field (λ c. c.also) refl r.also (cc) (k - at) j in
      let d : get_or r.to (k - at) 0 ≡ (cell_at ed (at + (k - at))).to = field (λ c. c.to) refl r.to (cc) (k - at) j in
      let f : r.bond ≡ cut at bonds = cc in
      let here : at + (k - at) ≡ k = omega arith in
      subst (Column ed xs) here
      (record {
        held = rw (a, b, c, d) at ((p (k - at) j).held (rw (a, b) (first_run ed (at + (k - at)))) (rw (c, d) (second_run ed (at + (k - at)))));
        bound = rw (f, cut_at bonds at (k - at) j) at (p (k - at) j).bound;
      })

-- one range and the next
pub onward : {ed : Edition} {xs : List ℕ} {from to : ℕ} (a b : ℕ) → Range ed xs from a → Range ed xs b to → b ≤ a → Range ed xs from to
onward {ed} {xs} a b f g l k h t = by (ltb k a) refl
  where
    by : (s : Bool) → ltb k a ≡ s → Column ed xs k
    by true e = f k h (ltb-true k a e)
    by false e = g k (omega (arith, ltb-false k a e)) t

-- one column, which is bound to none
last_of : (ed : Edition) (xs : List ℕ) (k : ℕ) → fits (cell_at ed k) (get_or xs k 0) ≡ true → bond_at k ≡ 46 → Range ed xs k (k + 1)
unfolding joined
last_of ed xs k h b j l t = let here : k ≡ j = omega arith in subst (Column ed xs) here (record { held = h; bound = rw b (second_holds (beq (not (eqb (get_or xs k 0) 32)) (not (eqb (get_or xs (k + 1) 0) 32))) _ refl) })

-- sixteen columns and the one after them, which is the last
pub to_last : (ed : Edition) (xs : List ℕ) (from k : ℕ) (o : Bool) → length xs ≡ k + 1 → Range ed xs from k → o ≡ not (fits (cell_at ed k) (get_or xs (length xs - 1) 0)) → bond_at k ≡ 46 → o ≡ false → Range ed xs from (k + 1)
to_last ed xs from k o l f g b z =
    let here : length xs - 1 ≡ k = omega arith in
    onward k k f (last_of ed xs k (ap (λ (i : ℕ). fits (cell_at ed k) (get_or xs i 0)) (sym here) ∙ not-false _ (sym g ∙ z)) b) (le_refl k)

-- all columns, from those that are shared and an edition's own
pub cover : (ed : Edition) (xs : List ℕ) → Shared xs → Own ed xs → Columns ed xs
cover ed xs s o k h =
    let t = s ed in
    onward 112 112 (onward 96 96 (onward 80 80 (onward 64 64 (onward 16 16 o.0 t.0 (omega arith)) o.1.0 (omega arith)) t.1 (omega arith)) o.1.1.0 (omega arith)) o.1.1.1 (omega arith) k (omega arith) h

-- an edition is the first, the third or the fourth
pub each : (P : Edition → Type 0) → P One → P Three → P Four → (ed : Edition) → P ed
each P p q r One = p
each P p q r Three = q
each P p q r Four = r

-- a range in every edition, from what it needs in each of the three
pub in_all : {xs : List ℕ} {from to : ℕ} {P : Edition → Type 0} → ((ed : Edition) → P ed → Range ed xs from to) → P One → P Three → P Four → (ed : Edition) → Range ed xs from to
in_all {P = P} f p q r ed = f ed (each P p q r ed)
