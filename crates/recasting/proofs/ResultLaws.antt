-- The texts of the recast record: where an element is kept it is what it was, where it is lost it is blank. Assumes nothing.
use mathlib.Core.Path.{◌≡◌, refl, ap, ◌∙◌}
use mathlib.Core.Bool.{Bool, true, false}
use mathlib.Core.List.{List, []}
use Prim.Native.Nat.{ℕ, ◌<◌, ◌≤◌}
use borrow.Author.Tests.{leb-true, leb-false}
use lib.Dec.{eqb, leb}
use lib.ListN.{length}
use Rattle.text.specs.Bytes.{every, blank}
use Rattle.numerals.proofs.Spellings.{blanks_blank}
use Rattle.layout.specs.declared.Edition.{Edition}
use Rattle.layout.specs.Editions.{length_of, last_of}
use Rattle.layout.specs.Page.{width_of, text_of}
use Rattle.layout.proofs.Beyond.{text_none}
use Rattle.layout.proofs.RecordLaws.{record_long, record_text}
use Rattle.checking.specs.Acceptable.{Acceptable}
use Rattle.meanings.specs.Kept.{lost_at}
use Rattle.recasting.specs.Recast.{widened, recast_text, recast_record}
use Rattle.recasting.proofs.WidenLaws.{own_kept, others_blank}
use Rattle.recasting.proofs.MakeLaws.{recast_wide}

-- columns 12 and 111 have rules of their own
abbrev pub Plain : ℕ → Type 0
Plain e = (eqb e 6 ≡ false) × (eqb e 65 ≡ false)

module _ (from to : Edition) (xs : List ℕ) (a : Acceptable from xs) where
  abbrev pub result : List ℕ
  result = recast_record from to xs

  pub result_long : length result ≡ length_of to
  unfolding recast_record
  result_long = record_long (recast_text from to xs) (recast_wide from to xs a.full) to

  pub result_text : (e : ℕ) → 1 ≤ e → e ≤ last_of to → text_of e result ≡ recast_text from to xs e
  unfolding recast_record
  result_text e h l = record_text (recast_text from to xs) (recast_wide from to xs a.full) to e h l

  pub result_beyond : (e : ℕ) → last_of to < e → text_of e result ≡ []
  result_beyond e h = text_none to result result_long e h

  module _ (e : ℕ) (plain : Plain e) where
    pub as_widened : 1 ≤ e → e ≤ last_of to → lost_at from to xs e ≡ false → text_of e result ≡ text_of e (widened xs)
    unfolding recast_text
    as_widened h l k = result_text e h l ∙ rw (plain.0, plain.1, k)

    -- an element that both editions have and that is not lost
    pub as_it_was : 1 ≤ e → e ≤ last_of from → e ≤ last_of to → lost_at from to xs e ≡ false → text_of e result ≡ text_of e xs
    as_it_was h m l k = as_widened h l k ∙ own_kept from xs a.full e m

    -- one that is lost
    pub lost_blank : 1 ≤ e → lost_at from to xs e ≡ true → blank (text_of e result) ≡ true
    unfolding recast_text every
    lost_blank h k = by (leb e (last_of to)) refl
      where
        by : (x : Bool) → leb e (last_of to) ≡ x → blank (text_of e result) ≡ true
        by true l = ap blank (result_text e h (leb-true _ _ l)) ∙ rw (plain.0, plain.1, k) (blanks_blank (width_of e))
        by false l = ap blank (result_beyond e (leb-false _ _ l))

    -- one that the target has and the record does not
    pub new_blank : 1 ≤ e → e ≤ last_of to → last_of from < e → lost_at from to xs e ≡ false → blank (text_of e result) ≡ true
    new_blank h l m k = ap blank (as_widened h l k) ∙ others_blank from xs a.full e m
