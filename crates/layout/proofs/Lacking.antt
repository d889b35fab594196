-- An element that an edition lacks has no legal text there but blanks. Assumes nothing.
use mathlib.Core.Path.{◌≡◌, refl, sym, ap, ◌∙◌}
use mathlib.Core.Bool.{Bool, true, false, ◌&&◌, true≢false}
use mathlib.Core.List.{List, [], ◌∷◌}
use Prim.Native.Nat.{ℕ, zero, suc, ◌+◌, ◌-◌, ◌<◌, ◌≤◌}
use native.Mathlib.Omega.{arith}
use lib.ListN.{get_or, drop}
use lib.Seq.{get_or-drop}
use Rattle.text.specs.LegalTexts.{allows}
use Rattle.text.specs.declared.LegalTexts.{LegalTexts}
use Rattle.text.specs.declared.LegalTexts.TheVariants.{Nothing, Printable, Letters, CallSign, DigitOr, Within, Either, OneOf}
use Rattle.text.proofs.Ways.{and_first, and_second}
use Rattle.layout.specs.declared.Edition.{Edition}
use Rattle.layout.specs.declared.Edition.TheVariants.{One, Three, Four}
use Rattle.layout.specs.Editions.{last_of}
use Rattle.layout.specs.Page.{Element, page, none, elements, element, legal_texts}

abbrev is_nothing : LegalTexts → Bool
is_nothing Nothing = true
is_nothing Printable = false
is_nothing Letters = false
is_nothing CallSign = false
is_nothing (DigitOr x) = false
is_nothing (Within a b) = false
is_nothing (Either a b c d) = false
is_nothing (OneOf a b c d) = false

not_allowed : (s : LegalTexts) → is_nothing s ≡ true → (t : List ℕ) → allows s t ≡ false
unfolding allows
not_allowed Nothing h t = refl
not_allowed Printable h t = absurd (true≢false (sym h))
not_allowed Letters h t = absurd (true≢false (sym h))
not_allowed CallSign h t = absurd (true≢false (sym h))
not_allowed (DigitOr x) h t = absurd (true≢false (sym h))
not_allowed (Within a b) h t = absurd (true≢false (sym h))
not_allowed (Either a b c d) h t = absurd (true≢false (sym h))
not_allowed (OneOf a b c d) h t = absurd (true≢false (sym h))

-- edition 1 has no texts from element 86 on, which antt computes over the page
abbrev all_nothing : List Element → Bool
all_nothing [] = true
all_nothing (x ∷ l) = is_nothing x.in1 && all_nothing l

nothing_at : (l : List Element) → all_nothing l ≡ true → (k : ℕ) → is_nothing (get_or l k none).in1 ≡ true
nothing_at [] h k = refl
nothing_at (x ∷ l) h zero = and_first _ _ h
nothing_at (x ∷ l) h (suc k) = nothing_at l (and_second (is_nothing x.in1) _ h) k

from_86 : (k : ℕ) → is_nothing (legal_texts One (86 + k)) ≡ true
unfolding element page
from_86 k = ap (λ (x : Element). is_nothing x.in1) (sym (get_or-drop 86 elements k none)) ∙ nothing_at (drop 86 elements) refl k

pub nothing_there : (ed : Edition) (e : ℕ) → last_of ed < e → e ≤ 101 → (t : List ℕ) → allows (legal_texts ed e) t ≡ false
nothing_there One e h l t =
    let split : e ≡ 86 + (e - 86) = omega arith in
    not_allowed (legal_texts One e) (ap (λ (n : ℕ). is_nothing (legal_texts One n)) split ∙ from_86 (e - 86)) t
nothing_there Three e h l t = absurd (omega arith)
nothing_there Four e h l t = absurd (omega arith)
