-- The ties of the recast record: the elements that they speak of are what they were, but for column 12, and RWS may have become blank. Assumes nothing.
use mathlib.Core.Path.{◌≡◌, refl, sym, ap, ◌∙◌}
use mathlib.Core.Logic.{◌⊎◌, inl, inr, ⊎_elim}
use mathlib.Core.Bool.{Bool, true, false, ◌||◌, true≢false}
use mathlib.Core.List.{List}
use Prim.Native.Nat.{ℕ}
use borrow.Author.Tests.{leb-true, leb-false}
use lib.Dec.{leb, lit≤}
use Rattle.text.specs.Bytes.{every, blank}
use Rattle.text.specs.LegalTexts.{among}
use Rattle.text.proofs.Among.{either_half, among_cases, not_second}
use Rattle.text.proofs.Ways.{second_holds, decide}
use Rattle.layout.specs.declared.Edition.{Edition}
use Rattle.layout.specs.declared.Edition.TheVariants.{One, Three, Four}
use Rattle.layout.specs.Editions.{last_of}
use Rattle.layout.specs.Page.{text_of}
use Rattle.ties.specs.Ties.{place_tie, octant_tie, wind_tie, tie}
use Rattle.ties.proofs.Looks.{elements_in, same_tie, same_in, of_each}
use Rattle.checking.specs.Acceptable.{Acceptable}
use Rattle.places.specs.Column12.{crosses}
use Rattle.meanings.specs.Kept.{lost_at}
use Rattle.recasting.proofs.ResultLaws.{result, result_beyond, as_it_was, lost_blank, new_blank}
use Rattle.recasting.proofs.NeverLaws.{steady, same}
use Rattle.recasting.proofs.ColumnLaws.{Column, stays, moves, column, same_there}

-- tie 2: where the place is blank, between editions that do not cross, and with a digit that keeps it
tied_blank : (ed : Edition) (t u : List ℕ) → blank t ≡ true → octant_tie ed t u ≡ true
unfolding octant_tie
tied_blank One t u b = rw b
tied_blank Three t u b = refl
tied_blank Four t u b = refl

within_tied : (from to : Edition) (t u : List ℕ) → crosses from to ≡ false → octant_tie from t u ≡ true → octant_tie to t u ≡ true
unfolding octant_tie
within_tied One One t u c h = h
within_tied Three One t u c h = absurd (true≢false c)
within_tied Four One t u c h = absurd (true≢false c)
within_tied from Three t u c h = refl
within_tied from Four t u c h = refl

-- ties 8 and 9 ask nothing where there is no speed
no_speed : (t u : List ℕ) → blank t ≡ true → wind_tie t u ≡ true
unfolding wind_tie
no_speed t u b = rw b

module _ (from to : Edition) (xs : List ℕ) (a : Acceptable from xs) where
  abbrev Same : ℕ → Type 0
  Same e = text_of e (result from to xs a) ≡ text_of e xs

  pub unchanged : (e : ℕ) → steady e ≡ true → Same e
  unchanged e = same from to xs a e

  -- RWS is what it was, or blank
  speed_or_blank : (blank (text_of 93 (result from to xs a)) ≡ true) ⊎ Same 93
  unfolding every
  speed_or_blank = by (lost_at from to xs 93) (leb 93 (last_of from)) (leb 93 (last_of to)) refl refl refl
    where
      by : (x y z : Bool) → lost_at from to xs 93 ≡ x → leb 93 (last_of from) ≡ y → leb 93 (last_of to) ≡ z → (blank (text_of 93 (result from to xs a)) ≡ true) ⊎ Same 93
      by x y false p q r = inl (ap blank (result_beyond from to xs a 93 (leb-false _ _ r)))
      by true y true p q r = inl (lost_blank from to xs a 93 (refl, refl) (lit≤ tt) p)
      by false true true p q r = inr (as_it_was from to xs a 93 (refl, refl) (lit≤ tt) (leb-true _ _ q) (leb-true _ _ r) p)
      by false false true p q r = inl (new_blank from to xs a 93 (refl, refl) (lit≤ tt) (leb-true _ _ r) (leb-false _ _ q) p)

  place_tied : tie to (result from to xs a) 1 ≡ true
  unfolding place_tie tie
  place_tied = rw (same_there from to xs a, (unchanged 7 refl), (unchanged 8 refl)) (a.tied 1)

  was : octant_tie from (text_of 6 xs) (text_of 8 xs) ≡ true
  unfolding tie
  was = a.tied 2

  octant_tied : tie to (result from to xs a) 2 ≡ true
  unfolding tie
  octant_tied = ap (octant_tie to (text_of 6 (result from to xs a))) (unchanged 8 refl) ∙ by (column from to xs a)
    where
      by : Column from to xs a → octant_tie to (text_of 6 (result from to xs a)) (text_of 8 xs) ≡ true
      by (stays w e) = ap (λ (t : List ℕ). octant_tie to t (text_of 8 xs)) e ∙ ⊎_elim (λ c. within_tied from to (text_of 6 xs) (text_of 8 xs) c was) (λ b. tied_blank to (text_of 6 xs) (text_of 8 xs) b) w
      by (moves c b f e) = ap (λ (t : List ℕ). octant_tie to t (text_of 8 xs)) e ∙ f.ties

  speed_tied : tie to (result from to xs a) 9 ≡ true
  unfolding tie
  speed_tied =
      ⊎_elim (no_speed (text_of 93 (result from to xs a)) (text_of 14 (result from to xs a)))
      (λ p. ap (λ (t : List ℕ). wind_tie t (text_of 14 (result from to xs a))) p ∙ ap (wind_tie (text_of 93 xs)) (unchanged 14 refl) ∙ a.tied 9) speed_or_blank

  -- every other tie looks at elements that are never lost
  steady_tie : (k : ℕ) → among 1 2 9 9 k ≡ false → every steady (elements_in k) ≡ true
  unfolding every
  steady_tie k n =
      ⊎_elim (λ y. absurd (true≢false (sym y ∙ n))) (λ y. y)
      (either_half (among 1 2 9 9 k) _ (of_each (λ k. among 1 2 9 9 k || every steady (elements_in k)) refl (λ k e. second_holds (among 1 2 9 9 k) _ (rw e)) k))

  -- and so the recast keeps it exactly where the record does
  pub as_before : (k : ℕ) → among 1 2 9 9 k ≡ false → tie to (result from to xs a) k ≡ tie from xs k
  as_before k n = same_tie to (result from to xs a) xs steady unchanged k (steady_tie k n) ∙ same_in to from xs k (not_second 1 2 9 9 k n)

  pub ties_kept : (k : ℕ) → tie to (result from to xs a) k ≡ true
  ties_kept k =
      decide (among 1 2 9 9 k) (among_cases (λ k. tie to (result from to xs a) k ≡ true) 1 2 9 9 k place_tied octant_tied speed_tied speed_tied) (λ n. as_before k n ∙ a.tied k)
