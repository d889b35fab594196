-- The one verdict that every call answers by, with its number and place; and what a rule adds to the rules after it. Assumes nothing.
use Rattle.std.specs.Prelude.{ℕ, Bool, true, false, cond, eqb, Result, Ok, Err}
use Rattle.refusals.specs.declared.Refusal.{Refusal}
use Rattle.refusals.specs.Refusals.{number_of, where_of}

-- a call is fine, or it is refused
abbrev pub Verdict : Type 0
Verdict = Result (Unit {0}) Refusal

-- the number and the place of a verdict: 0 and 0 where nothing is refused
abbrev pub verdict_number : Verdict → ℕ
verdict_number (Ok _) = 0
verdict_number (Err r) = number_of r

abbrev pub verdict_place : Verdict → ℕ
verdict_place (Ok _) = 0
verdict_place (Err r) = where_of r

abbrev pub is_refused : Verdict → Bool
is_refused (Ok _) = false
is_refused (Err r) = true

-- a rule: the call refuses for r unless the test passed; or it refuses for r at the place that was found, if one was. Else the next rules say
abbrev pub unless : {A : Type 0} → (Refusal → A) → Bool → Refusal → A → A
unless refuses kept r next = cond kept next (refuses r)

abbrev pub refused_at : {A : Type 0} → (Refusal → A) → (ℕ → Refusal) → ℕ → A → A
refused_at refuses r p next = cond (eqb p 0) next (refuses (r p))
