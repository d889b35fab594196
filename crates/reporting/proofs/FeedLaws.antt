-- A piece that is fed line after line: what is taken of it so far, and what is said of that. Assumes nothing.
use mathlib.Core.Path.{◌≡◌, refl, sym, ap, ap₂, ◌∙◌}
use mathlib.Core.Bool.{Bool, true, false}
use mathlib.Core.List.{List, [], ◌∷◌, ◌++◌, append_assoc, append-nil}
use Prim.Native.Nat.{ℕ, zero, suc, ◌+◌, ◌-◌, ◌<◌, ◌≤◌}
use native.Mathlib.Numerals.{add-one}
use native.Mathlib.Omega.{arith}
use borrow.Author.Tests.{eqb-true}
use lib.Dec.{eqb}
use lib.ListN.{length, get_or, take, drop, length-drop}
use lib.Seq.{get_or-drop, take_all, take-add, take-suc}
use Rattle.octets.specs.Octets.{index_of, index_after}
use Rattle.wording.specs.declared.sheet.Sheet.{Sheet}
use Rattle.report_lines.specs.Says.{record_most}
use Rattle.reporting.specs.declared.Ledger.{Ledger}
use Rattle.reporting.specs.declared.Run.{Run}
use Rattle.reporting.specs.declared.Taking.{Taking}
use Rattle.reporting.specs.Lines.{next_end}
use Rattle.reporting.specs.Run.{State, state, ledger_after, said_of, kept, step, state_after, said_by}
use Rattle.reporting.specs.FeedClauses.{view, seen, Tells, Takes, Feeds}
use Rattle.wording.proofs.PutLaws.{nothing, also}
use Rattle.reporting.proofs.CutLaws.{kept_cut}
use Rattle.reporting.proofs.RunLaws.{state_append, said_append}

-- the bytes before the first line end are held, and nothing is said of them
module _ (l : Ledger) where
  held_state : (held rest : List ℕ) → state_after (state l (take 160 held)) (take (index_of 10 rest) rest) ≡ state l (take 160 (held ++ take (index_of 10 rest) rest))
  unfolding index_of index_after state_after
  held_state held [] = rw (append-nil)
  held_state held (b ∷ rest) = by (eqb b 10) refl (held_state (held ++ b ∷ []) rest)
    where
      by : (x : Bool) → eqb b 10 ≡ x →
          state_after (state l (take 160 (held ++ b ∷ []))) (take (index_of 10 rest) rest) ≡ state l (take 160 (held ++ b ∷ [] ++ take (index_of 10 rest) rest)) →
          state_after (state l (take 160 held)) (take (index_after x (index_of 10 rest)) (b ∷ rest)) ≡ state l (take 160 (held ++ take (index_after x (index_of 10 rest)) (b ∷ rest)))
      by true e there = rw (append-nil)
      by false e there =
          let one : step (state l (take 160 held)) b ≡ state l (take 160 (held ++ b ∷ [])) = rw (e, kept_cut held b) in
          ap (λ (s : State). state_after s (take (index_of 10 rest) rest)) one ∙ there ∙ ap (λ (t : List ℕ). state l (take 160 t)) (append_assoc held (b ∷ []) _)

  held_said : (held rest : List ℕ) → said_by (state l held) (take (index_of 10 rest) rest) ≡ []
  unfolding index_of index_after said_by
  held_said held [] = refl
  held_said held (b ∷ rest) = by (eqb b 10) refl (held_said (kept held b) rest)
    where
      by : (x : Bool) → eqb b 10 ≡ x → said_by (state l (kept held b)) (take (index_of 10 rest) rest) ≡ [] →
          said_by (state l held) (take (index_after x (index_of 10 rest)) (b ∷ rest)) ≡ []
      by true e there = refl
      by false e there = rw e there

-- the line end that was found
found : (rest : List ℕ) → index_of 10 rest < length rest → get_or rest (index_of 10 rest) 0 ≡ 10
unfolding index_of index_after
found [] h = absurd (omega arith)
found (b ∷ rest) h = by (eqb b 10) refl (found rest) h
  where
    by : (x : Bool) → eqb b 10 ≡ x → (index_of 10 rest < length rest → get_or rest (index_of 10 rest) 0 ≡ 10) →
        index_after x (index_of 10 rest) < suc (length rest) → get_or (b ∷ rest) (index_after x (index_of 10 rest)) 0 ≡ 10
    by true e there k = eqb-true b 10 e
    by false e there k = there (omega arith)

-- nothing is taken of the piece
pub takes_none : (run : Taking) (piece : List ℕ) (before : Sheet) → Takes (seen run) piece before run before 0
unfolding state_after said_by
takes_none run piece before = record { within = omega arith; after = refl; same_buffer = refl; same_length = refl; said = nothing before.end before.out.now }

-- the bytes from `at` to the next line end, or to the end of the piece
module _ {s : State} {piece : List ℕ} {before now : Sheet} {run : Taking} {at : ℕ} (f : Takes s piece before run now at) (end : ℕ)
    (e : end ≡ next_end piece at) (h : end ≤ length piece) (short : length run.held ≤ 160) where
  abbrev l : Ledger
  l = run.ledger

  abbrev held : List ℕ
  held = run.held

  abbrev rest : List ℕ
  rest = drop at piece

  abbrev line : List ℕ
  line = take (end - at) rest

  -- that is how long they are
  index : end - at ≡ index_of 10 rest
  index = omega (arith, e)

  span : take end piece ≡ take at piece ++ line
  span = let sum : end ≡ at + (end - at) = omega (arith, f.within) in ap (λ (k : ℕ). take k piece) sum ∙ take-add at (end - at) piece

  -- they are held, as far as 160 bytes go, and nothing is said of them
  state_span : state_after s (take end piece) ≡ state l (take 160 (held ++ line))
  state_span =
      let few : take 160 held ≡ held = take_all 160 held short in
      ap (state_after s) span ∙
      state_append s (take at piece) line ∙
      ap (λ (t : State). state_after t line) f.after ∙
      ap (λ (t : List ℕ). state_after (state l t) line) (sym few) ∙
      ap (λ (k : ℕ). state_after (state l (take 160 held)) (take k rest)) index ∙
      held_state l held rest ∙
      ap (λ (k : ℕ). state l (take 160 (held ++ take k rest))) (sym index)

  said_span : said_by s (take end piece) ≡ said_by s (take at piece)
  said_span =
      ap (said_by s) span ∙
      said_append s (take at piece) line ∙
      ap (λ (t : State). said_by s (take at piece) ++ said_by t line) f.after ∙
      ap (λ (k : ℕ). said_by s (take at piece) ++ said_by (state l held) (take k rest)) index ∙
      ap (λ (t : List ℕ). said_by s (take at piece) ++ t) (held_said l held rest) ∙
      append-nil (said_by s (take at piece))

  -- the bytes are kept
  pub takes_kept : {more : Taking} → more.ledger ≡ l → more.held ≡ take 160 (held ++ line) → Takes s piece before more now end
  takes_kept g k = record { within = h; after = state_span ∙ ap₂ state (sym g) (sym k); same_buffer = f.same_buffer; same_length = f.same_length; said = rw said_span f.said }

  -- the line ends here, and is told
  module _ (inside : end ≡ length piece → ⊥) where
    ended : get_or piece end 0 ≡ 10
    ended =
        let less : index_of 10 rest < length rest = omega (arith, index, f.within, length-drop at piece) in
        let place : end ≡ at + index_of 10 rest = omega (arith, index, f.within) in
        ap (λ (k : ℕ). get_or piece k 0) place ∙ sym (get_or-drop at piece (index_of 10 rest) 0) ∙ found rest less

    longer : take (end + 1) piece ≡ take end piece ++ 10 ∷ []
    longer = rw (add-one end, take-suc piece end 0 (omega arith), ended)

    state_line : state_after s (take (end + 1) piece) ≡ state (ledger_after l (take 160 (held ++ line))) []
    unfolding state_after
    state_line = ap (state_after s) longer ∙ state_append s (take end piece) (10 ∷ []) ∙ ap (λ (t : State). state_after t (10 ∷ [])) state_span

    said_line : said_by s (take (end + 1) piece) ≡ said_by s (take at piece) ++ said_of l (take 160 (held ++ line))
    unfolding said_by
    said_line =
        ap (said_by s) longer ∙
        said_append s (take end piece) (10 ∷ []) ∙
        ap (λ (t : State). said_by s (take end piece) ++ said_by t (10 ∷ [])) state_span ∙
        ap (λ (t : List ℕ). t ++ (said_of l (take 160 (held ++ line)) ++ [])) said_span ∙
        ap (λ (t : List ℕ). said_by s (take at piece) ++ t) (append-nil _)

    pub takes_line : {more : Taking} {later : Sheet} → Tells l (take 160 (held ++ line)) now later more.ledger → more.held ≡ [] → Takes s piece before more later (end + 1)
    takes_line {more} {later} t k = record {
      within = omega arith;
      after = state_line ∙ ap₂ state (sym t.next) (sym k);
      same_buffer = t.said.same_buffer ∙ f.same_buffer;
      same_length = t.said.same_length ∙ f.same_length;
      said = rw said_line (also f.said t.said.puts (omega (arith, later.within, t.said.same_length, f.same_length)));
    }

-- where it stops, all of the piece is taken, or too little room is left for another line
pub feeds : {run last : Run} {first final : Taking} {piece after : List ℕ} (before now : Sheet) {at : ℕ} → seen first ≡ view run → view last ≡ seen final →
    before.end ≡ 0 → after ≡ now.out.now → Takes (seen first) piece before final now at →
    (at < length piece → length now.out.now < now.end + record_most) → Feeds run piece before.out.now after (record { run = last; taken = at; written = now.end })
unfolding said_by
feeds {run} {first = first} {final} {piece = piece} before now {at} p q z e t h =
    let said = rw z at f.said in
    record {
      within = f.within;
      room = omega (arith, now.within, f.same_length);
      state = q ∙ sym f.after;
      said = rw e said;
      stops = λ k. omega (arith, h k, f.same_length);
      moves = by at refl;
    }
  where
    f : Takes (view run) piece before final now at
    f = rw p at t

    by : (k : ℕ) → at ≡ k → record_most ≤ length before.out.now → 0 < length piece → 0 < at
    by zero i r m =
        let none : length (said_by (view run) (take at piece)) ≡ 0 = rw i in
        let full = h (omega arith) in
        absurd (omega (arith, f.said.ends, f.same_length))
    by (suc k) i r m = omega arith
