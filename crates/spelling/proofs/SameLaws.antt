-- Two readings that are the same in every part are equal, and a reading is the same as itself. Assumes nothing.
use mathlib.Core.Path.{◌≡◌, refl, sym, ap, ◌∙◌}
use mathlib.Core.Bool.{Bool, true, beq}
use mathlib.Core.List.{List, [], ◌∷◌}
use Prim.Native.Nat.{ℕ}
use borrow.Author.Tests.{eqb-true, eq-eqb}
use lib.Dec.{eqb}
use lib.IntN.{ℤ}
use lib.ListN.{get_or}
use Rattle.text.proofs.Ways.{and_first, and_second, beq_true, beq_same}
use Rattle.reading.specs.declared.Kind.{Kind}
use Rattle.reading.specs.declared.Kind.TheVariants.{Measured, Computed, IcedMeasured, IcedComputed}
use Rattle.reading.specs.declared.Reading.{Reading}
use Rattle.reading.specs.declared.Reading.TheVariants.{Missing, Code, Text, Amount, At}
use Rattle.signs.specs.Signed.{signed}
use Rattle.signs.proofs.Signs.{rejoined}
use Rattle.spelling.specs.Same.{Parts, kind_number, parts_of, same_parts, same}

abbrev kinds : List Kind
kinds = Measured ∷ Computed ∷ IcedMeasured ∷ IcedComputed ∷ []

abbrev kind_back : ℕ → Kind
kind_back n = get_or kinds n Measured

kind_is : (k : Kind) → kind_back (kind_number k) ≡ k
kind_is Measured = refl
kind_is Computed = refl
kind_is IcedMeasured = refl
kind_is IcedComputed = refl

-- the reading that some parts are of
abbrev by_case : Parts → List Reading
by_case p =
    Missing ∷
    Code p.first ∷
    Text p.first ∷
    Amount (signed p.below p.first) (kind_back p.second) ∷
    At (record { latitude = signed p.below p.first; longitude = p.second; digit = p.third }) ∷
    []

abbrev whole : Parts → Reading
whole p = get_or (by_case p) p.case Missing

back : (r : Reading) → whole (parts_of r) ≡ r
unfolding parts_of
back Missing = refl
back (Code n) = refl
back (Text n) = refl
back (Amount a k) = rw (rejoined a, kind_is k)
back (At p) = ap (λ (z : ℤ). At (record { latitude = z; longitude = p.longitude; digit = p.digit })) (rejoined p.latitude)

made : {p q : Parts} → p.case ≡ q.case → p.below ≡ q.below → p.first ≡ q.first → p.second ≡ q.second → p.third ≡ q.third → p ≡ q
made {p} {q} a b c d f =
    ap (λ (x : ℕ). record { case = x; below = p.below; first = p.first; second = p.second; third = p.third }) a ∙
    ap (λ (x : Bool). record { case = q.case; below = x; first = p.first; second = p.second; third = p.third }) b ∙
    ap (λ (x : ℕ). record { case = q.case; below = q.below; first = x; second = p.second; third = p.third }) c ∙
    ap (λ (x : ℕ). record { case = q.case; below = q.below; first = q.first; second = x; third = p.third }) d ∙
    ap (λ (x : ℕ). record { case = q.case; below = q.below; first = q.first; second = q.second; third = x }) f

parts_equal : (p q : Parts) → same_parts p q ≡ true → p ≡ q
parts_equal p q e =
    let a : p.case ≡ q.case = eqb-true _ _ (and_first _ _ e) in
    let e1 = and_second (eqb p.case q.case) _ e in
    let b : p.below ≡ q.below = beq_true _ _ (and_first _ _ e1) in
    let e2 = and_second (beq p.below q.below) _ e1 in
    let c : p.first ≡ q.first = eqb-true _ _ (and_first _ _ e2) in
    let e3 = and_second (eqb p.first q.first) _ e2 in
    let d : p.second ≡ q.second = eqb-true _ _ (and_first _ _ e3) in
    let f : p.third ≡ q.third = eqb-true _ _ (and_second (eqb p.second q.second) _ e3) in
    made a b c d f

pub same_equal : (a b : Reading) → same a b ≡ true → a ≡ b
unfolding same
same_equal a b e = sym (back a) ∙ ap whole (parts_equal (parts_of a) (parts_of b) e) ∙ back b

pub same_self : (a : Reading) → same a a ≡ true
unfolding same
same_self a =
    rw (eq-eqb (parts_of a).case _ refl, beq_same (parts_of a).below, eq-eqb (parts_of a).first _ refl, eq-eqb (parts_of a).second _ refl, eq-eqb (parts_of a).third _ refl)
