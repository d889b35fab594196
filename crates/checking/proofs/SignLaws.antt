-- What showing the call sign leans on. Assumes nothing.
use mathlib.Core.Path.{◌≡◌, sym, ap, ◌∙◌}
use mathlib.Core.List.{List}
use Prim.Native.Nat.{ℕ, ◌+◌, ◌≤◌}
use native.Mathlib.Omega.{arith}
use lib.ListN.{length, take}
use Rattle.text.proofs.Parts.{front_length}
use Rattle.text.specs.Bytes.{to_last_non_blank}
use Rattle.layout.specs.declared.Edition.{Edition}
use Rattle.layout.specs.Editions.{length_of}
use Rattle.layout.specs.Page.{width_of, start_of, text_of}
use Rattle.layout.proofs.Beyond.{last_above}
use Rattle.layout.proofs.RecordLaws.{ends}
use Rattle.checking.specs.Check.{call_sign_of, Answer}
use Rattle.std.proofs.Common.{Ok}

-- a record as long as its edition's has the columns of every element up to edition 1's last
pub long : (xs : List ℕ) (ed : Edition) → length xs ≡ length_of ed → (e : ℕ) → e ≤ 85 → start_of e + width_of e ≤ length xs
long xs ed h e l = omega (arith, ends ed e (omega (arith, last_above ed)))

pub shown : (xs t : List ℕ) (ed : Edition) (a : Answer) (n : ℕ) → a ≡ Ok ed → (t ≡ text_of 42 xs) × (length t ≤ 7) →
    (n ≤ length t) × (take n t ≡ to_last_non_blank t) → (take n t ≡ call_sign_of a xs) × (length (take n t) ≤ 7)
unfolding call_sign_of
shown xs t ed a n h g f = (f.1 ∙ ap to_last_non_blank g.0 ∙ ap (λ (q : Answer). call_sign_of q xs) (sym h), omega (arith, f.0, g.1, front_length n t f.0))
