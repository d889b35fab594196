-- The run goes on from where it stands: what is said of some bytes and then of others. Assumes nothing.
use mathlib.Core.Path.{◌≡◌, refl, sym, ap, ◌∙◌}
use mathlib.Core.List.{List, [], ◌∷◌, ◌++◌, append_assoc}
use Prim.Native.Nat.{ℕ}
use Rattle.reporting.specs.Run.{State, step, said_at, state_after, said_by}

pub state_append : (s : State) (a b : List ℕ) → state_after s (a ++ b) ≡ state_after (state_after s a) b
unfolding state_after
state_append s [] b = refl
state_append s (x ∷ a) b = state_append (step s x) a b

pub said_append : (s : State) (a b : List ℕ) → said_by s (a ++ b) ≡ said_by s a ++ said_by (state_after s a) b
unfolding said_by state_after
said_append s [] b = refl
said_append s (x ∷ a) b = ap (λ t. said_at s x ++ t) (said_append (step s x) a b) ∙ sym (append_assoc (said_at s x) (said_by (step s x) a) _)
