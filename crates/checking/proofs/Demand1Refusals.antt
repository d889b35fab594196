-- Demand 1: bad input gets the refusal that document 01 fixes, in its order, with its place. Assumes nothing.
--     refused_exactly   check answers refusal n with place p exactly when rule n fails at p, every earlier rule holds, and the same rule holds at every
--                       lower place
--     fits, only_one    what check answers fits the record; two answers that fit are equal
use mathlib.Core.Path.{◌≡◌, sym, ap, ◌∙◌}
use mathlib.Core.Logic.{◌↔◌}
use mathlib.Core.List.{List}
use Prim.Native.Nat.{ℕ, ◌<◌}
use native.Mathlib.Omega.{arith}
use Rattle.refusals.specs.declared.Refusal.{Refusal}
use Rattle.refusals.specs.Refusals.{number_of, where_of}
use Rattle.refusals.specs.Verdicts.{verdict_number, verdict_place}
use Rattle.refusals.proofs.RefusalLaws.{same_refusal, numbered}
use Rattle.checking.specs.Check.{checked, answer_verdict, Answer}
use Rattle.checking.specs.Rules.{FirstFailure}
use Rattle.checking.specs.Acceptable.{Fits}
use Rattle.checking.proofs.Told.{Told, told, same_failure, apart}
use Rattle.checking.proofs.Demand2Acceptance.{accepted_exactly}
use Rattle.std.proofs.Common.{Ok, Err}

module _ (xs : List ℕ) where
  -- what an answer with a number above 0 has told
  answered : (a : Answer) → Told xs a → 0 < verdict_number (answer_verdict a) → FirstFailure xs (verdict_number (answer_verdict a)) (verdict_place (answer_verdict a))
  unfolding Told Fits
  answered (Ok ed) t h = absurd (omega arith)
  answered (Err r) t h = t

  -- an answer that was told has the number and the place of the rule that fails first
  answers : (a : Answer) → Told xs a → {n p : ℕ} → FirstFailure xs n p → (verdict_number (answer_verdict a) ≡ n) × (verdict_place (answer_verdict a) ≡ p)
  unfolding Told Fits
  answers (Ok ed) t {n} {p} f = absurd (apart (t.1 n p) f.fails)
  answers (Err r) t f = same_failure xs t f

  pub refused_exactly : (n p : ℕ) → 0 < n → ((verdict_number (answer_verdict (checked xs)) ≡ n) × (verdict_place (answer_verdict (checked xs)) ≡ p)) ↔ FirstFailure xs n p
  refused_exactly n p h = ((λ e. rw (e.0, e.1) at (answered (checked xs) (told xs) (rw e.0 h))), answers (checked xs) (told xs))

  -- an answer that fits is the one that check gives
  is_refused_lem : (a : Answer) (r : Refusal) → verdict_number (answer_verdict a) ≡ number_of r → verdict_place (answer_verdict a) ≡ where_of r → a ≡ Err r
  is_refused_lem (Ok ed) r e f = absurd (omega (arith, numbered r))
  is_refused_lem (Err s) r e f = ap Err (same_refusal s r e f)

  given : (a : Answer) → Fits xs a → checked xs ≡ a
  unfolding Fits
  given (Ok ed) f = (accepted_exactly xs ed).1 f
  given (Err r) f = let e = (refused_exactly (number_of r) (where_of r) (numbered r)).1 f in is_refused_lem (checked xs) r e.0 e.1

  -- what check answers fits
  fitting : (a : Answer) → Told xs a → Fits xs a
  unfolding Told
  fitting (Ok ed) t = t.0
  fitting (Err r) t = t

  pub fits : Fits xs (checked xs)
  fits = fitting (checked xs) (told xs)

  pub only_one : (a b : Answer) → Fits xs a → Fits xs b → a ≡ b
  only_one a b f g = sym (given a f) ∙ given b g
