-- What a call with a lent buffer answers and leaves, by what it comes to. Assumes nothing.
use mathlib.Core.Path.{◌≡◌, refl, ap, ◌∙◌}
use mathlib.Core.Bool.{Bool, true, false}
use mathlib.Core.List.{List}
use Prim.Native.Nat.{ℕ, ◌<◌, ◌≤◌}
use native.Mathlib.Omega.{arith}
use borrow.Author.Tests.{le-leb, lt-leb, leb-true}
use lib.Dec.{leb}
use lib.ListN.{length}
use Rattle.refusals.specs.declared.Refusal.{Refusal}
use Rattle.refusals.specs.declared.Refusal.TheVariants.{Room}
use Rattle.std.proofs.Common.{Ok, Err}
use Rattle.refusals.specs.Verdicts.{unless}
use Rattle.refusals.specs.Lent.{Call, refusing, writing, in_room, verdict_of, verdict_in, front_of, overwritten, left_by, Answers}

module _ {A : Type 0} (a : A) (bytes : List ℕ) (room : ℕ) where
  pub has_room : length bytes ≤ room → in_room room (writing a bytes) ≡ writing a bytes
  unfolding in_room
  has_room h = rw (le-leb (length bytes) room h)

  pub lacks_room : room < length bytes → in_room room (writing a bytes) ≡ refusing Room
  unfolding in_room
  lacks_room h = rw (lt-leb (length bytes) room h)

-- a verdict that is not for room was given by the call's own rules
pub by_its_rules : {A : Type 0} (room : ℕ) (r : Refusal) → (r ≡ Room → ⊥) → (call : Call A) → verdict_in room call ≡ Err r → call ≡ refusing r
unfolding in_room
by_its_rules room r other (refusing s) f = let same : s ≡ r = cc in ap refusing same
by_its_rules room r other (writing a bytes) f = absurd (by (leb (length bytes) room) f)
  where
    by : (t : Bool) → verdict_of (unless refusing t Room (writing a bytes)) ≡ Err r → ⊥
    by true g = let z : ◌≡◌ {A = ℕ} 0 1 = cc in omega arith
    by false g = let same : r ≡ Room = cc in other same

-- a call that is fine has written its bytes, and there was room for them
pub record Wrote {A : Type 0} (call : Call A) (room : ℕ) : Type 0 where
  pub says : A
  pub bytes : List ℕ
  pub is : call ≡ writing says bytes
  pub fits : length bytes ≤ room

pub fine_means : {A : Type 0} (room : ℕ) (call : Call A) → verdict_in room call ≡ Ok tt → Wrote call room
unfolding in_room
fine_means room (refusing r) f = let z : ◌≡◌ {A = ℕ} 0 1 = cc in absurd (omega arith)
fine_means room (writing a bytes) f = by (leb (length bytes) room) refl f
  where
    by : (t : Bool) → leb (length bytes) room ≡ t → verdict_of (unless refusing t Room (writing a bytes)) ≡ Ok tt → Wrote (writing a bytes) room
    by true h g = record { says = a; bytes = bytes; is = refl; fits = leb-true _ _ h }
    by false h g = let z : ◌≡◌ {A = ℕ} 0 1 = cc in absurd (omega arith)

module _ {A : Type 0} (call : Call A) (before : List ℕ) where
  -- a refused call leaves the lent buffer as it was
  pub refused_untouched : (r : Refusal) → verdict_in (length before) call ≡ Err r → left_by call before ≡ before
  refused_untouched r e = by (in_room (length before) call) e
    where
      by : (c : Call A) → verdict_of c ≡ Err r → overwritten (front_of c) before ≡ before
      by (refusing s) f = refl
      by (writing a bytes) f = let z : ◌≡◌ {A = ℕ} 0 1 = cc in absurd (omega arith)

  -- the ways in which a call comes back, with the answer o: its own rules refuse, there is no room, or the bytes were written
  module _ {R : Type 0} (says : Call A → R) {o : R} where
    pub refuses : {r : Refusal} → call ≡ refusing r → o ≡ says (refusing r) → Answers says call before before o
    unfolding in_room
    refuses e s = rw e (record { said = s; left = refl })

    module _ {a : A} {bytes : List ℕ} (e : call ≡ writing a bytes) where
      pub cramped : length before < length bytes → o ≡ says (refusing Room) → Answers says call before before o
      cramped h s = let f : in_room (length before) call ≡ refusing Room = rw e (lacks_room a bytes (length before) h) in record { said = s ∙ rw f; left = rw f }

      pub writes : length bytes ≤ length before → {after : List ℕ} → after ≡ overwritten bytes before → o ≡ says (writing a bytes) → Answers says call before after o
      writes h g s = let f : in_room (length before) call ≡ writing a bytes = rw e (has_room a bytes (length before) h) in record { said = s ∙ rw f; left = g ∙ rw f }

    -- a call that comes to the same
    pub same_call : {other : Call A} {after : List ℕ} → call ≡ other → Answers says call before after o → Answers says other before after o
    same_call e a = rw (← e) a
