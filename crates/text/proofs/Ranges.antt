-- A number from one number to another: what the test says of it, and a wider test that passes wherever a narrower one does. Assumes nothing.
use mathlib.Core.Path.{◌≡◌, refl}
use mathlib.Core.Bool.{Bool, true}
use mathlib.Core.List.{List, [], ◌∷◌}
use Prim.Native.Nat.{ℕ, ◌≤◌}
use borrow.Author.Tests.{leb-true}
use lib.Dec.{leb}
use Rattle.text.specs.Bytes.{every, between}
use Rattle.text.proofs.Ways.{and_first, and_second}

pub least : (lo hi n : ℕ) → between lo hi n ≡ true → lo ≤ n
least lo hi n e = leb-true lo n (and_first _ _ e)

pub greatest : (lo hi n : ℕ) → between lo hi n ≡ true → n ≤ hi
greatest lo hi n e = leb-true n hi (and_second (leb lo n) _ e)

pub wider : (p q : ℕ → Bool) → ((b : ℕ) → p b ≡ true → q b ≡ true) → (t : List ℕ) → every p t ≡ true → every q t ≡ true
unfolding every
wider p q f [] e = refl
wider p q f (b ∷ t) e = rw (f b (and_first _ _ e)) (wider p q f t (and_second (p b) _ e))
