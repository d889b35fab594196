-- `trial::put_all` meets its contract: the loop stands before element k + 1, and the numbers of those below it are laid. Assumes nothing.
use Prim.Native.Nat.{ℕ, ◌+◌, ◌*◌, ◌<◌}
use Rattle.reading.proofs.EntryLaws.{held_next}
use Rattle.signs.proofs.Signs.{itself}
use Rattle.trial.proofs.PackedLaws.{amounts_long, four_long, front_all, lay_amounts, lay_numbers, numbers_long}
use Rattle.trial.specs.Packed.{amounts_from, numbers_from, packed}
use Rattle.reading.specs.Answers.{read_as}
use Rattle.trial.specs.declared.Packed.{Packed}
use borrow.Author.Rules.{rules}
use lib.Dec.{lit<}
use lib.ListN.{length, take, drop, length-set}
use mathlib.Core.List.{◌++◌}
use mathlib.Core.Path.{◌∙◌, ◌≡◌, ap, refl}
use native.Mathlib.Omega.{arith}
use Rattle.trial.proofs.put_all.Goals.{After-pack-said}
use Rattle.trial.proofs.put_all.Goals as goal

fits : (c : After-pack-said) (j : ℕ) → j < 4 → 4 * c.loop-k.k + j < length c.loop-k.numbers
fits c j h = omega (arith, c.loop-k.invariant.0, c.loop-k.invariant.1.1.0)

pub loop-k-init : goal.loop-k-init
loop-k-init c = (c.requires.0, (c.requires.1, (refl, (refl, (refl, refl)))))

pub bounds-numbers-i-in-loop-k : goal.bounds-numbers-i-in-loop-k
bounds-numbers-i-in-loop-k c = search (rules, fits c 1 (lit< tt))

pub bounds-numbers-i-in-loop-k-2 : goal.bounds-numbers-i-in-loop-k-2
bounds-numbers-i-in-loop-k-2 c = search (rules, fits c 2 (lit< tt))

pub bounds-numbers-i-in-loop-k-3 : goal.bounds-numbers-i-in-loop-k-3
bounds-numbers-i-in-loop-k-3 c = search (rules, fits c 3 (lit< tt))

pub loop-k-preserved : goal.loop-k-preserved
loop-k-preserved c =
    let k = c.loop-k.k in
    let inv = c.loop-k.invariant in
    let reads = held_next c.args.all.entries k in
    let lay_numbers = lay_numbers (read_as c.args.all.entries) k (omega arith) in
    let lay_amounts = lay_amounts (read_as c.args.all.entries) k (omega arith) in (
      inv.0,
      (
        inv.1.0,
        (
          four_long c.loop-k.numbers k c.pack-said.result ∙ inv.1.1.0,
          (
            length-set c.loop-k.amounts k _ ∙ inv.1.1.1.0,
            (
              lay_numbers _ _ inv.0 inv.1.1.1.1.0 c.pack-said.result (c.pack-said.ensures ∙ ap packed reads),
              lay_amounts _ _ inv.1.0 inv.1.1.1.1.1 _ (itself c.pack-said.result.amount (record { sfits = c.struct_told-1.given.1.1.1.1.0.1 }) ∙ ap (λ (v : Packed). v.amount) (c.pack-said.ensures ∙ ap packed reads)),
            ),
          ),
        ),
      ),
    )

pub shape_of-numbers : goal.shape_of-numbers
shape_of-numbers c = c.loop-k.invariant.1.1.0

pub shape_of-amounts : goal.shape_of-amounts
shape_of-amounts c = c.loop-k.invariant.1.1.1.0

pub returns-clause-numbers_after : goal.returns-clause-numbers_after
returns-clause-numbers_after c =
    let inv = c.loop-k.invariant in
    let all : c.loop-k.k ≡ 101 = omega arith in
    let f = read_as c.args.all.entries in
    let ns = c.args.numbers.now in
    inv.1.1.1.1.0 ∙ ap (λ (k : ℕ). take (4 * k) (numbers_from f 1 101) ++ drop (4 * k) ns) all ∙ front_all ns (numbers_from f 1 101) 404 (numbers_long f 1 101)

pub returns-clause-amounts_after : goal.returns-clause-amounts_after
returns-clause-amounts_after c =
    let inv = c.loop-k.invariant in
    let all : c.loop-k.k ≡ 101 = omega arith in
    let f = read_as c.args.all.entries in
    let ms = c.args.amounts.now in
    inv.1.1.1.1.1 ∙ ap (λ (k : ℕ). take k (amounts_from f 1 101) ++ drop k ms) all ∙ front_all ms (amounts_from f 1 101) 101 (amounts_long f 1 101)
