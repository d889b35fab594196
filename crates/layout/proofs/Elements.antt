-- The loop over a record's elements: where it stands, what it takes out, and what its test says of `legal`. Assumes nothing.
use mathlib.Core.Path.{◌≡◌, refl, sym, ap, ◌∙◌}
use mathlib.Core.Bool.{Bool, true, false, ◌&&◌, ◌||◌}
use mathlib.Core.List.{List}
use Prim.Native.Nat.{ℕ, ◌+◌, ◌-◌, ◌≤◌}
use native.Mathlib.Nat.{add-sub_cancel_left}
use native.Mathlib.Omega.{arith}
use lib.Dec.{lit≤}
use lib.ListN.{length, take, drop}
use Rattle.text.specs.Bytes.{blank}
use Rattle.text.specs.LegalTexts.{allows}
use Rattle.text.specs.declared.LegalTexts.{LegalTexts}
use Rattle.layout.specs.declared.Edition.{Edition}
use Rattle.layout.specs.declared.Edition.TheVariants.{One, Three, Four}
use Rattle.layout.specs.Editions.{length_of, last_of}
use Rattle.layout.specs.Page.{element, width_of, start_of, text_of, legal_texts, may_be_blank, legal_text, legal}
use Rattle.layout.proofs.Columns.{start_next, start_rises, filled}
use Rattle.layout.proofs.LegalTexts.{in_all}

pub last_below : (ed : Edition) → last_of ed ≤ 101
last_below One = lit≤ tt
last_below Three = lit≤ tt
last_below Four = lit≤ tt

-- a loop stands at element e, whose columns start at `at` and are d
module _ (at e d : ℕ) (stands : at ≡ start_of e) (wide : d ≡ width_of e) where
  pub next : at + d ≡ start_of (e + 1)
  next = rw (stands, wide) (sym (start_next e))

  pub within : (ed : Edition) (xs : List ℕ) (last : ℕ) → last ≡ last_of ed → length xs ≡ length_of ed → e ≤ last → at + d ≤ length xs
  within ed xs last n f h = rw (next, f, ← filled ed) (start_rises (e + 1) (last_of ed + 1) (omega arith))

  pub part : (xs : List ℕ) → take (at + d - at) (drop at xs) ≡ text_of e xs
  unfolding text_of
  part xs = rw (add-sub_cancel_left at d, stands, wide)

-- what a test of its text says of an element
pub legal_of : (ed : Edition) (xs t : List ℕ) (e : ℕ) → t ≡ text_of e xs → (r : Bool) → r ≡ legal_text ed e t → r ≡ legal ed xs e
unfolding legal
legal_of ed xs t e f r g = g ∙ ap (legal_text ed e) f

-- an element whose texts are the same in all editions
pub in_each : (ed : Edition) (e : ℕ) (s : LegalTexts) → (element e).in1 ≡ s → (element e).in3 ≡ s → (element e).in4 ≡ s → legal_texts ed e ≡ s
in_each ed e s p q r = rw (p, q, r) (sym (in_all ed s))

-- blanks are legal where they may stand, and what is allowed is legal
pub blank_legal : (ed : Edition) (e : ℕ) (t : List ℕ) → may_be_blank e ≡ true → blank t ≡ true → legal_text ed e t ≡ true
blank_legal ed e t m b = rw (m, b)

pub allowed_legal : (ed : Edition) (e : ℕ) (t : List ℕ) → allows (legal_texts ed e) t ≡ true → legal_text ed e t ≡ true
allowed_legal ed e t a = by (may_be_blank e && blank t)
  where
    by : (x : Bool) → (x || allows (legal_texts ed e) t) ≡ true
    by true = refl
    by false = a
