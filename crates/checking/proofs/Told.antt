-- What check answers is true of the record: the rules are walked in the table's order, and each step knows that every rule before it holds. The promises
-- of demands 1 and 2 are read off this. Assumes nothing.
use mathlib.Core.Path.{◌≡◌, refl, sym, ap, ◌∙◌}
use mathlib.Core.Logic.{⊎_elim}
use mathlib.Core.Bool.{Bool, true, false, cond, true≢false}
use mathlib.Core.List.{List}
use Prim.Native.Nat.{ℕ, suc, ◌<◌, ◌≤◌}
use native.Mathlib.Nat.{le_of_suc-le-suc, eq-or-lt_of_le}
use native.Mathlib.Omega.{arith}
use borrow.Author.Tests.{eq-eqb, ne_eqb, eqb-true, leb-true, leb-false}
use lib.Dec.{eqb, leb}
use lib.ListN.{length, get_or-eq_default}
use Rattle.text.specs.Bytes.{printable}
use Rattle.text.proofs.First.{Found, at_none, at_lowest, found}
use Rattle.layout.specs.declared.Edition.{Edition}
use Rattle.refusals.specs.declared.Refusal.{Refusal}
use Rattle.refusals.specs.declared.Refusal.TheVariants.{Length, Unprintable, Format, Version, EditionLength, Illegal, Broken}
use Rattle.layout.specs.Editions.{length_of, last_of}
use Rattle.layout.specs.Page.{legal}
use Rattle.refusals.specs.Refusals.{number_of, where_of}
use Rattle.refusals.specs.Verdicts.{unless, refused_at}
use Rattle.ties.specs.Ties.{tie}
use Rattle.checking.specs.Check.{column, known_length, printable_at, known_format, named, checked_in, checked, Answer}
use Rattle.checking.specs.Rules.{only, is_known, of_edition, rules, rule, FirstFailure}
use Rattle.checking.specs.Acceptable.{Fits}
use Rattle.layout.proofs.Beyond.{legal_none, legal_zero}
use Rattle.ties.proofs.TieLaws.{lowest_broken}
use Rattle.checking.proofs.Placed.{column_none, blank_zero}
use Rattle.std.proofs.Common.{Option, Some, None, Ok, Err}

-- what an answer is known to say of the record: it fits, and where it accepts every rule holds at every place
unfoldable pub Told : List ℕ → Answer → Type 0
Told xs (Ok ed) = Fits xs (Ok ed) × ((n q : ℕ) → rule xs n q ≡ true)
Told xs (Err r) = Fits xs (Err r)

pub apart : {b : Bool} → b ≡ true → b ≡ false → ⊥
apart e f = true≢false (sym e ∙ f)

-- a place is at most another, or beyond it
data Order (a b : ℕ) : Type 0 where
  less : a < b → Order a b
  same : a ≡ b → Order a b
  more : b < a → Order a b

order : (a b : ℕ) → Order a b
order a b = at_most (leb a b) refl
  where
    at_most : (t : Bool) → leb a b ≡ t → Order a b
    at_most true e = ⊎_elim same less (eq-or-lt_of_le (leb-true a b e))
    at_most false e = more (leb-false a b e)

-- a rule that looks at one place: it holds everywhere where it is kept, and below the place in any case
only_kept : (p q : ℕ) → only p true q ≡ true
only_kept p q = same_either (eqb q p)
  where
    same_either : (t : Bool) → cond t true true ≡ true
    same_either true = refl
    same_either false = refl

only_below : (p q : ℕ) (kept : Bool) → q < p → only p kept q ≡ true
only_below p q kept h = rw (ne_eqb q p (λ e. omega arith))

only_there : (p : ℕ) (kept : Bool) → only p kept p ≡ kept
only_there p kept = rw (eq-eqb p p refl)

module _ (xs : List ℕ) where
  -- every rule before rule n holds
  abbrev Past : ℕ → Type 0
  Past n = (m : ℕ) → m < n → (q : ℕ) → rule xs m q ≡ true

  past_none : Past 1
  unfolding rule
  past_none m h q = ap (λ (k : ℕ). rule xs k q) (let z : m ≡ 0 = omega arith in z)

  one_more : (n : ℕ) → Past n → ((q : ℕ) → rule xs n q ≡ true) → Past (suc n)
  one_more n f g m h q = ⊎_elim (λ e. ap (λ (k : ℕ). rule xs k q) e ∙ g q) (λ l. f m l q) (eq-or-lt_of_le (le_of_suc-le-suc h))

  -- there is no rule past rule 7
  past_all : Past 8 → (n q : ℕ) → rule xs n q ≡ true
  unfolding rule
  past_all f n q = reach (order n 8)
    where
      none : 8 ≤ n → rule xs n q ≡ true
      none h = ap (λ (t : ℕ → Bool). t q) (get_or-eq_default (rules xs) (λ p. true) h)

      reach : Order n 8 → rule xs n q ≡ true
      reach (less h) = f n h q
      reach (same e) = none (omega arith)
      reach (more h) = none (omega arith)

  -- a rule of one place: it fails there, or what follows is told
  by_test : (kept : Bool) (r : Refusal) (a : Answer) → ((q : ℕ) → rule xs (number_of r) q ≡ only (where_of r) kept q) → Past (number_of r) →
      (kept ≡ true → Past (suc (number_of r)) → Told xs a) → Told xs (unless Err kept r a)
  unfolding Told Fits
  by_test true r a f past next = next refl (one_more _ past (λ q. f q ∙ only_kept (where_of r) q))
  by_test false r a f past next = record {
    fails = f (where_of r) ∙ only_there (where_of r) false;
    earlier = past;
    lower = λ q h. f q ∙ only_below (where_of r) q false h;
  }

  -- a rule of several places: it fails at the lowest that was found, or what follows is told
  module _ (n : ℕ) (r : ℕ → Refusal) (test : ℕ → Bool) (a : Answer) (number : (p : ℕ) → number_of (r p) ≡ n) (place : (p : ℕ) → where_of (r p) ≡ p)
      (is : (q : ℕ) → rule xs n q ≡ test q) (past : Past n) (next : ((q : ℕ) → test q ≡ true) → Past (suc n) → Told xs a) where
    by_place : (p : ℕ) → Found test p → Told xs (refused_at Err r p a)
    unfolding Told Fits
    by_place p (at_none f) = next f (one_more n past (λ q. is q ∙ f q))
    by_place p (at_lowest q low x f) =
        rw (ne_eqb q 0 (λ e. omega arith), number q, place q)
        (record { fails = is q ∙ x; earlier = past; lower = λ j h. is j ∙ f j h })

  -- what is known where rules 1 to 4 hold and column 111 names the edition ed
  module _ (ed : Edition) (e : named xs ≡ Some ed) (prints : (c : ℕ) → printable_at xs c ≡ true) (format : known_format (column 1 xs) ≡ true) (past : Past 5) where
    told_known : Told xs (checked_in (Some ed) xs)
    unfolding checked_in rule Told Fits
    told_known =
        by_test (eqb (length xs) (length_of ed)) EditionLength _ (λ q. ap (λ (m : Option Edition). only 0 (of_edition m (λ ed. eqb (length xs) (length_of ed))) q) e) past
        (λ full past6. let f : length xs ≡ length_of ed = eqb-true _ _ full in
        by_place 6 Illegal (legal ed xs) _ (λ p. refl) (λ p. refl) (λ q. ap (λ (m : Option Edition). of_edition m (λ ed. legal ed xs q)) e) past6
        (λ lawful past7.
        by_place 7 Broken (tie ed xs) _ (λ p. refl) (λ p. refl) (λ q. ap (λ (m : Option Edition). of_edition m (λ ed. tie ed xs q)) e) past7
        (λ tied past8. (
          record {
            names = e;
            full = f;
            prints = λ c _ _. prints c;
            format = format;
            lawful = λ k _ _. lawful k;
            tied = tied;
          },
          past_all past8,
        ))
        _ (lowest_broken ed xs))
        _ (found (legal ed xs) (legal_zero ed xs) (last_of ed) (legal_none ed xs f)))

  -- rule 4, and the rest where it holds
  told_in : (m : Option Edition) → named xs ≡ m → ((c : ℕ) → printable_at xs c ≡ true) → known_format (column 1 xs) ≡ true → Past 4 → Told xs (checked_in m xs)
  unfolding checked_in rule
  told_in None e prints format past =
      by_test false Version (Err Version) (λ q. ap (λ (m : Option Edition). only 111 (is_known m) q) e) past (λ never. absurd (true≢false (sym never)))
  told_in (Some ed) e prints format past =
      told_known ed e prints format (one_more 4 past (λ q. ap (λ (m : Option Edition). only 111 (is_known m) q) e ∙ only_kept 111 q))

  -- what check answers is true of the record
  pub told : Told xs (checked xs)
  unfolding checked rule
  told =
      by_test (known_length (length xs)) Length _ (λ q. refl) past_none
      (λ known past2.
      by_place 2 Unprintable (printable_at xs) _ (λ p. refl) (λ p. refl) (λ q. refl) past2
      (λ prints past3. by_test (known_format (column 1 xs)) Format _ (λ q. refl) past3 (λ format past4. told_in (named xs) refl prints format past4))
      _ (found (printable_at xs) (blank_zero xs) (length xs) (λ q h. ap printable (column_none xs q h))))

  -- a rule that fails first leaves no room for another
  pub same_failure : {n p m q : ℕ} → FirstFailure xs n p → FirstFailure xs m q → (n ≡ m) × (p ≡ q)
  same_failure {n} {p} {m} {q} a b = numbers (order n m)
    where
      places : n ≡ m → Order p q → (n ≡ m) × (p ≡ q)
      places e (less h) = absurd (apart (b.lower p h) (ap (λ (k : ℕ). rule xs k p) (sym e) ∙ a.fails))
      places e (same f) = (e, f)
      places e (more h) = absurd (apart (a.lower q h) (ap (λ (k : ℕ). rule xs k q) e ∙ b.fails))

      numbers : Order n m → (n ≡ m) × (p ≡ q)
      numbers (less h) = absurd (apart (b.earlier n h p) a.fails)
      numbers (same e) = places e (order p q)
      numbers (more h) = absurd (apart (a.earlier m h q) b.fails)
