-- What a call does to a buffer that is lent to it, once for all calls: a call says what it writes, and here stands what the buffer holds afterwards. Assumes nothing.
use Rattle.std.specs.Prelude.{ℕ, ◌≡◌, List, [], ◌++◌, leb, length, drop, Ok, Err}
use Rattle.refusals.specs.declared.Refusal.{Refusal}
use Rattle.refusals.specs.declared.Refusal.TheVariants.{Room}
use Rattle.refusals.specs.Verdicts.{Verdict, unless}

-- what a call comes to by its own rules: it refuses, or it writes some bytes and says something besides
pub data Call (A : Type 0) : Type 0 where
  refusing : Refusal → Call A
  writing : A → List ℕ → Call A

-- what a call says that says nothing besides
pub data Quiet : Type 0 where
  quiet : Quiet

-- 9, the last rule of every such call: the buffer has room for the bytes
unfoldable pub in_room : {A : Type 0} → ℕ → Call A → Call A
in_room room (refusing r) = refusing r
in_room room (writing a bytes) = unless refusing (leb (length bytes) room) Room (writing a bytes)

abbrev pub verdict_of : {A : Type 0} → Call A → Verdict
verdict_of (refusing r) = Err r
verdict_of (writing a bytes) = Ok tt

abbrev pub verdict_in : {A : Type 0} → ℕ → Call A → Verdict
verdict_in room call = verdict_of (in_room room call)

-- the bytes that are written: a refused call writes none
abbrev pub front_of : {A : Type 0} → Call A → List ℕ
front_of (refusing r) = []
front_of (writing a bytes) = bytes

-- what is written in front of what stood behind it
abbrev pub overwritten : {A : Type 0} → List A → List A → List A
overwritten front before = front ++ drop (length front) before

-- what the lent buffer holds after a call
abbrev pub left_by : {A : Type 0} → Call A → List ℕ → List ℕ
left_by call before = overwritten (front_of (in_room (length before) call)) before

-- the contract of a call with a lent buffer: what it answers, in the words of `says`, and what it leaves
pub record Answers {A R : Type 0} (says : Call A → R) (call : Call A) (before after : List ℕ) (r : R) : Type 0 where
  pub said : r ≡ says (in_room (length before) call)
  pub left : after ≡ left_by call before
