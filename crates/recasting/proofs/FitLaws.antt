-- The recast record is the only one that fits: element by element its text is determined. Assumes nothing.
use mathlib.Core.Path.{◌≡◌, refl, sym, ap, ◌∙◌}
use mathlib.Core.Bool.{Bool, true, false, true≢false}
use mathlib.Core.List.{List, [], ◌∷◌}
use Prim.Native.Nat.{ℕ, ◌+◌, ◌≤◌}
use native.Mathlib.Omega.{arith}
use borrow.Author.Tests.{eqb-true, leb-true, leb-false}
use lib.Dec.{eqb, leb}
use lib.ListN.{length}
use Rattle.text.specs.Bytes.{blank, number}
use Rattle.numerals.proofs.Backs.{blanks_back}
use Rattle.layout.specs.declared.Edition.{Edition}
use Rattle.layout.specs.Editions.{last_of}
use Rattle.layout.specs.Page.{width_of, text_of}
use Rattle.layout.proofs.Elements.{last_below}
use Rattle.layout.proofs.RecordLaws.{text_long, same_record}
use Rattle.checking.specs.Acceptable.{Acceptable}
use Rattle.places.specs.Column12.{suits}
use Rattle.places.proofs.Demand3Digits.{digit_found}
use Rattle.recasting.proofs.Request9Places.{HasDigit}
use Rattle.meanings.specs.Kept.{lost_text, lost_at}
use Rattle.recasting.specs.Recast.{recast_record}
use Rattle.meanings.specs.Lost.{Expressible}
use Rattle.recasting.specs.Fits.{Lowest, Column12, stays, moves, Recasts}
use Rattle.recasting.proofs.ResultLaws.{result, result_long, lost_blank}
use Rattle.recasting.proofs.ColumnLaws as Columns
use Rattle.recasting.proofs.Demand3Accepted.{version_text}
use Rattle.recasting.proofs.Demand3Meaning.{lost_exactly, expressible, text_kept, blank_stays}

-- two blank texts of one length are equal
pub two_blanks : (n : ℕ) (s t : List ℕ) → length s ≡ n → length t ≡ n → blank s ≡ true → blank t ≡ true → s ≡ t
two_blanks n s t f g a b = sym (blanks_back n s f a) ∙ blanks_back n t g b

blank_is_kept : (from to : Edition) (e : ℕ) (t : List ℕ) → blank t ≡ true → lost_text from to e t ≡ false
unfolding lost_text
blank_is_kept from to e t b = rw b

module _ (from to : Edition) (xs : List ℕ) (a : Acceptable from xs) where
  -- the digit that is taken is the lowest
  taken_lowest : (f : HasDigit from to xs) → Lowest from to xs f.digit
  unfolding suits
  taken_lowest f =
      let g = digit_found from to (number (text_of 6 xs)) (number (text_of 7 xs)) (number (text_of 8 xs)) in
      let same : g.digit ≡ f.digit = omega (arith, g.is, f.lowest) in
      rw (← same) (record { small = g.small; suited = rw (g.stands, g.same, g.ties); lower = g.lowest })

  pub one_lowest : (c d : ℕ) → Lowest from to xs c → Lowest from to xs d → c ≡ d
  one_lowest c d l m = by (leb c d) (leb d c) refl refl
    where
      by : (x y : Bool) → leb c d ≡ x → leb d c ≡ y → c ≡ d
      by true true p q = omega (arith, leb-true c d p, leb-true d c q)
      by false y p q = absurd (true≢false (sym m.suited ∙ l.lower d (leb-false c d p)))
      by true false p q = absurd (true≢false (sym l.suited ∙ m.lower c (leb-false d c q)))

  pub column_fits : Column12 from to xs (result from to xs a)
  column_fits = by (Columns.column from to xs a)
    where
      by : Columns.Column from to xs a → Column12 from to xs (result from to xs a)
      by (Columns.stays w e) = stays w e
      by (Columns.moves c b f e) = moves c b f.digit (taken_lowest f) e

  pub result_fits : Recasts from to xs (result from to xs a)
  result_fits = record {
    full = result_long from to xs a;
    column12 = column_fits;
    version = version_text from to xs a;
    kept = λ e h l p q b x. by_loss e h l p q b x (lost_at from to xs e) refl;
    lost = λ e h l p q x. lost_blank from to xs a e (p, q) h ((lost_exactly from to xs a e h (omega (arith, last_below to)) q).1 x);
    missing = λ e h l p q b. blank_stays from to xs a e h (omega (arith, last_below to)) q b (blank_not_lost e b);
  }
    where
      blank_not_lost : (e : ℕ) → blank (text_of e xs) ≡ true → lost_at from to xs e ≡ false
      blank_not_lost e b = blank_is_kept from to e (text_of e xs) b

      by_loss : (e : ℕ) → 1 ≤ e → e ≤ last_of to → eqb e 6 ≡ false → eqb e 65 ≡ false → blank (text_of e xs) ≡ false → Expressible from to xs e → (k : Bool) → lost_at from to xs e ≡ k →
          text_of e (result from to xs a) ≡ text_of e xs
      by_loss e h l p q b x true k = absurd (((lost_exactly from to xs a e h (omega (arith, last_below to)) q).0 k).none x)
      by_loss e h l p q b x false k = text_kept from to xs a e h (omega (arith, last_below to)) q p b k

  -- any other that fits has the same texts
  module _ (ys : List ℕ) (r : Recasts from to xs ys) where
    same_column : text_of 6 ys ≡ text_of 6 (result from to xs a)
    same_column = by r.column12 column_fits
      where
        by : Column12 from to xs ys → Column12 from to xs (result from to xs a) → text_of 6 ys ≡ text_of 6 (result from to xs a)
        by (stays w e) (stays v f) = e ∙ sym f
        by (stays w e) (moves c b d l f) = absurd (Columns.not_both from to xs a w c b)
        by (moves c b d l e) (stays w f) = absurd (Columns.not_both from to xs a w c b)
        by (moves c b d l e) (moves k m n o f) = e ∙ ap (λ (z : ℕ). (48 + z) ∷ []) (one_lowest d n l o) ∙ sym f

    both_blank : (e : ℕ) → e ≤ last_of to → blank (text_of e ys) ≡ true → blank (text_of e (result from to xs a)) ≡ true → text_of e ys ≡ text_of e (result from to xs a)
    both_blank e l b c = two_blanks (width_of e) _ _ (text_long to ys r.full e l) (text_long to (result from to xs a) (result_long from to xs a) e l) b c

    same_other : (e : ℕ) → 1 ≤ e → e ≤ last_of to → eqb e 6 ≡ false → eqb e 65 ≡ false → text_of e ys ≡ text_of e (result from to xs a)
    same_other e h l p q = by (blank (text_of e xs)) (lost_at from to xs e) refl refl
      where
        l' : e ≤ 101
        l' = omega (arith, last_below to)

        by : (b k : Bool) → blank (text_of e xs) ≡ b → lost_at from to xs e ≡ k → text_of e ys ≡ text_of e (result from to xs a)
        by true k f g = both_blank e l (r.missing e h l p q f) (result_fits.missing e h l p q f)
        by false true f g = let x = (lost_exactly from to xs a e h l' q).0 g in both_blank e l (r.lost e h l p q x) (result_fits.lost e h l p q x)
        by false false f g = let x = expressible from to xs a e h l' q f g in r.kept e h l p q f x ∙ sym (result_fits.kept e h l p q f x)

    pub only_record : ys ≡ recast_record from to xs
    only_record = same_record to ys (result from to xs a) same r.full (result_long from to xs a)
      where
        same : (e : ℕ) → 1 ≤ e → e ≤ last_of to → text_of e ys ≡ text_of e (result from to xs a)
        same e h l = by (eqb e 6) (eqb e 65) refl refl
          where
            by : (x y : Bool) → eqb e 6 ≡ x → eqb e 65 ≡ y → text_of e ys ≡ text_of e (result from to xs a)
            by true y p q = rw (eqb-true e 6 p) same_column
            by false true p q = rw (eqb-true e 65 q) (r.version ∙ sym (version_text from to xs a))
            by false false p q = same_other e h l p q
