-- The loop that spells all readings: what stands in front and what is left to spell are the whole row. Assumes nothing.
use mathlib.Core.Path.{◌≡◌, sym, ap, ◌∙◌}
use mathlib.Core.List.{List, [], ◌++◌, append_assoc, append-nil}
use Prim.Native.Nat.{ℕ, ◌+◌, ◌-◌, ◌<◌, ◌≤◌}
use native.Mathlib.Omega.{arith}
use lib.ListN.{length, take}
use lib.Seq.{take_all}
use Rattle.numerals.specs.declared.Numeral.{Numeral}
use Rattle.numerals.specs.Numerals.{spell, placed}
use Rattle.numerals.proofs.PlacedLaws.{placed_to}
use Rattle.numerals.proofs.Spellings.{spelled_length}
use Rattle.layout.specs.declared.Edition.{Edition}
use Rattle.layout.specs.declared.Edition.TheVariants.{Four}
use Rattle.layout.specs.Page.{width_of, start_of}
use Rattle.layout.specs.Records.{row_from}
use Rattle.layout.proofs.Columns.{start_next, start_below, filled}
use Rattle.layout.proofs.RecordLaws as Records
use Rattle.reading.specs.declared.Reading.{Reading}
use Rattle.reading.specs.Readings.{lead}
use Rattle.spelling.specs.Spelled.{numeral_for, given, text_for, row_for}

one_more : (ed : Edition) (rs : List Reading) (e : ℕ) → e ≤ 101 → row_for ed rs e (101 + 1 - e) ≡ text_for ed rs e ++ row_for ed rs (e + 1) (101 + 1 - (e + 1))
unfolding row_for
one_more ed rs e h = Records.one_more (text_for ed rs) e h

module _ (ed : Edition) (rs : List Reading) (whole row : List ℕ) (at e : ℕ) (inv : take at row ++ row_for ed rs e (101 + 1 - e) ≡ whole) where
  pub row_turn : (w : ℕ) (m : Numeral) → e ≤ 101 → at + w ≤ length row → w ≡ width_of e → m ≡ numeral_for ed e (given rs (lead e)) →
      take (at + w) (placed at (spell w m) row) ++ row_for ed rs (e + 1) (101 + 1 - (e + 1)) ≡ whole
  row_turn w m h l f g =
      let rest : List ℕ = row_for ed rs (e + 1) (101 + 1 - (e + 1)) in
      let long : length (spell w m) ≡ w = spelled_length m.base m.nought w m.number in
      let taken : take (at + w) (placed at (spell w m) row) ≡ take at row ++ spell w m =
      ap (λ (k : ℕ). take (at + k) (placed at (spell w m) row)) (sym long) ∙ placed_to at (spell w m) row (omega arith) in
      let text : spell w m ≡ text_for ed rs e = ap (λ (k : ℕ). spell k m) f ∙ ap (spell (width_of e)) g in
      ap (λ (t : List ℕ). t ++ rest) taken ∙ append_assoc (take at row) (spell w m) rest ∙ ap (λ (t : List ℕ). take at row ++ (t ++ rest)) text ∙
      ap (λ (t : List ℕ). take at row ++ t) (sym (one_more ed rs e h)) ∙ inv

  pub row_end : length row ≡ 159 → at ≡ start_of e → 101 < e → e ≤ 102 → row ≡ whole
  unfolding row_for row_from
  row_end h f g k =
      let last : e ≡ 102 = omega arith in
      let none : 101 + 1 - e ≡ 0 = omega arith in
      let full : at ≡ 159 = f ∙ ap start_of last ∙ filled Four in
      sym (append-nil row) ∙ ap (λ (t : List ℕ). t ++ []) (sym (take_all at row (omega arith))) ∙ ap (λ (n : ℕ). take at row ++ row_for ed rs e n) (sym none) ∙ inv

pub within : (at w e : ℕ) → at ≡ start_of e → w ≡ width_of e → e ≤ 101 → (at + w ≡ start_of (e + 1)) × (at + w ≤ 159)
within at w e f g h =
    let n : at + w ≡ start_of (e + 1) = rw (f, g) (sym (start_next e)) in
    (n, omega (arith, n, start_below (e + 1) (omega arith)))
