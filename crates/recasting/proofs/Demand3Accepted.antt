-- Demand 3: the recast of an accepted record is a record that the target edition accepts. Assumes nothing.
use Rattle.std.specs.Prelude.{Ok}
use mathlib.Core.Path.{◌≡◌, refl, sym, ap, ◌∙◌}
use mathlib.Core.Logic.{⊎_elim}
use mathlib.Core.Bool.{Bool, true, false, not, ◌&&◌, ◌||◌, true≢false}
use mathlib.Core.List.{List, [], ◌∷◌}
use Prim.Native.Nat.{ℕ, ◌≤◌}
use native.Mathlib.Omega.{arith}
use borrow.Author.Tests.{eqb-true, leb-true, leb-false}
use lib.Dec.{eqb, leb, lit≤}
use Rattle.text.specs.Bytes.{every, blank, value_from}
use Rattle.text.specs.LegalTexts.{allows}
use Rattle.text.specs.declared.LegalTexts.{LegalTexts}
use Rattle.layout.specs.declared.Edition.{Edition}
use Rattle.layout.specs.declared.Edition.TheVariants.{One, Three, Four}
use Rattle.layout.specs.Editions.{last_of}
use Rattle.layout.specs.Page.{page, element, text_of, legal_texts, may_be_blank, legal_text, legal}
use Rattle.layout.proofs.Beyond.{last_above}
use Rattle.layout.proofs.Elements.{blank_legal, allowed_legal}
use Rattle.places.proofs.DigitLaws.{same_digits}
use Rattle.checking.specs.Check.{checked}
use Rattle.checking.specs.Acceptable.{Acceptable}
use Rattle.checking.proofs.Demand2Acceptance.{accepted_exactly}
use Rattle.checking.proofs.LegalLaws.{legal_record}
use Rattle.meanings.specs.Meaning.{sense_of, same_sense}
use Rattle.meanings.specs.Kept.{keeps, lost_text, lost_at}
use Rattle.recasting.specs.Recast.{digit_of, recast_text, recast_record}
use Rattle.recasting.proofs.Request9Places.{standing}
use Rattle.recasting.proofs.ResultLaws.{Plain, result, result_long, result_text, as_it_was, lost_blank, new_blank}
use Rattle.recasting.proofs.ColumnLaws.{Column, stays, moves, column}
use Rattle.recasting.proofs.NeverLaws.{same}
use Rattle.recasting.proofs.TiedLaws.{ties_kept}

-- a text that is legal in one edition and not lost is legal in the other
kept_legal : (from to : Edition) (e : ℕ) (t : List ℕ) → Plain e → may_be_blank e ≡ true → lost_text from to e t ≡ false → legal_text to e t ≡ true
unfolding lost_text keeps
kept_legal from to e t plain m k = by (blank t) refl (allows (legal_texts to e) t) refl
  where
    by : (b : Bool) → blank t ≡ b → (x : Bool) → allows (legal_texts to e) t ≡ x → legal_text to e t ≡ true
    by true f x g = blank_legal to e t m f
    by false f true g = allowed_legal to e t g
    by false f false g = absurd (true≢false (sym lost ∙ k))
      where
        lost : (not (blank t) && not (eqb e 6 || (eqb e 65 || (allows (legal_texts to e) t && same_sense (sense_of from e t) (sense_of to e t))))) ≡ true
        lost = rw (f, plain.0, plain.1, g)

module _ (from to : Edition) (xs : List ℕ) (a : Acceptable from xs) where
  -- column 12
  legal_six : legal to (result from to xs a) 6 ≡ true
  unfolding legal
  legal_six = by (column from to xs a)
    where
      was : legal_text from 6 (text_of 6 xs) ≡ true
      was = a.lawful 6 (lit≤ tt) (omega (arith, last_above from))

      by : Column from to xs a → legal_text to 6 (text_of 6 (result from to xs a)) ≡ true
      by (stays w e) =
          ap (legal_text to 6) e ∙
          ⊎_elim (λ c. ap (λ (s : LegalTexts). (may_be_blank 6 && blank (text_of 6 xs)) || allows s (text_of 6 xs)) (sym (same_digits from to c)) ∙ was) (λ b. blank_legal to 6 (text_of 6 xs) refl b) w
      by (moves c b f e) = ap (legal_text to 6) e ∙ allowed_legal to 6 (standing f.digit) f.stands

  -- column 111
  names_target : (ed : Edition) → allows (legal_texts ed 65) (digit_of ed ∷ []) ≡ true
  unfolding element page allows every value_from
  names_target One = refl
  names_target Three = refl
  names_target Four = refl

  pub version_text : text_of 65 (result from to xs a) ≡ digit_of to ∷ []
  unfolding recast_text
  version_text = result_text from to xs a 65 (lit≤ tt) (omega (arith, last_above to))

  legal_version : legal to (result from to xs a) 65 ≡ true
  unfolding legal
  legal_version = ap (legal_text to 65) version_text ∙ allowed_legal to 65 (digit_of to ∷ []) (names_target to)

  -- element 1 has the same texts in all editions
  legal_format : legal to (result from to xs a) 1 ≡ true
  unfolding legal element page
  legal_format = ap (legal_text to 1) (same from to xs a 1 refl) ∙ by from to (a.lawful 1 (lit≤ tt) (omega (arith, last_above from)))
    where
      by : (from to : Edition) → legal_text from 1 (text_of 1 xs) ≡ true → legal_text to 1 (text_of 1 xs) ≡ true
      by One One h = h
      by One Three h = h
      by One Four h = h
      by Three One h = h
      by Three Three h = h
      by Three Four h = h
      by Four One h = h
      by Four Three h = h
      by Four Four h = h

  -- every other element
  legal_other : (e : ℕ) → 1 ≤ e → e ≤ last_of to → Plain e → may_be_blank e ≡ true → legal to (result from to xs a) e ≡ true
  unfolding legal
  legal_other e h l plain m = by (lost_at from to xs e) (leb e (last_of from)) refl refl
    where
      by : (x y : Bool) → lost_at from to xs e ≡ x → leb e (last_of from) ≡ y → legal_text to e (text_of e (result from to xs a)) ≡ true
      by true y k n = blank_legal to e (text_of e (result from to xs a)) m (lost_blank from to xs a e plain h k)
      by false true k n = ap (legal_text to e) (as_it_was from to xs a e plain h (leb-true _ _ n) l k) ∙ kept_legal from to e (text_of e xs) plain m k
      by false false k n = blank_legal to e (text_of e (result from to xs a)) m (new_blank from to xs a e plain h l (leb-false _ _ n) k)

  every_legal : (e : ℕ) → 1 ≤ e → e ≤ last_of to → legal to (result from to xs a) e ≡ true
  every_legal e h l = by (eqb e 6) (eqb e 65) (eqb e 1) refl refl refl
    where
      by : (x y z : Bool) → eqb e 6 ≡ x → eqb e 65 ≡ y → eqb e 1 ≡ z → legal to (result from to xs a) e ≡ true
      by true y z p q r = rw (eqb-true e 6 p) legal_six
      by false true z p q r = rw (eqb-true e 65 q) legal_version
      by false false true p q r = rw (eqb-true e 1 r) legal_format
      by false false false p q r = legal_other e h l (p, q) (rw (q, r))

  pub acceptable : Acceptable to (result from to xs a)
  acceptable = legal_record to (result from to xs a) (result_long from to xs a) every_legal (ties_kept from to xs a)

-- The record is accepted, so its recast is.
pub recast_is_accepted : (from to : Edition) (xs : List ℕ) → checked xs ≡ Ok from → checked (recast_record from to xs) ≡ Ok to
recast_is_accepted from to xs ok = (accepted_exactly (recast_record from to xs) to).1 (acceptable from to xs ((accepted_exactly xs from).0 ok))
