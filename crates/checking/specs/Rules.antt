-- The rules of check by number and place, with no order among them: what 'rule n fails at p' says. Assumes nothing.
use Rattle.std.specs.Prelude.{ℕ, ◌<◌, ◌≡◌, List, [], ◌∷◌, Bool, true, false, cond, eqb, length, get_or, Option, Some, None}
use Rattle.layout.specs.declared.Edition.{Edition}
use Rattle.layout.specs.Editions.{length_of}
use Rattle.layout.specs.Page.{legal}
use Rattle.ties.specs.Ties.{tie}
use Rattle.checking.specs.Check.{column, known_length, printable_at, known_format, named}

-- a rule that looks at one place holds at every other
abbrev pub only : ℕ → Bool → ℕ → Bool
only place kept p = cond (eqb p place) kept true

abbrev pub is_known : Option Edition → Bool
is_known None = false
is_known (Some ed) = true

-- rules 5, 6, 7 ask something of the record's edition; where column 111 names none there is nothing to ask, and rule 4 has failed
abbrev pub of_edition : Option Edition → (Edition → Bool) → Bool
of_edition None asks = true
of_edition (Some ed) asks = asks ed

-- the rules by number, from 1 on, each a test of a place
abbrev pub rules : List ℕ → List (ℕ → Bool)
rules xs =
    (λ p. true) ∷
    only 0 (known_length (length xs)) ∷
    (λ c. printable_at xs c) ∷
    only 1 (known_format (column 1 xs)) ∷
    only 111 (is_known (named xs)) ∷
    only 0 (of_edition (named xs) (λ ed. eqb (length xs) (length_of ed))) ∷
    (λ e. of_edition (named xs) (λ ed. legal ed xs e)) ∷
    (λ k. of_edition (named xs) (λ ed. tie ed xs k)) ∷
    []

unfoldable pub rule : List ℕ → ℕ → ℕ → Bool
rule xs n = get_or (rules xs) n (λ p. true)

-- rule n fails at place p, every earlier rule holds, and the same rule holds at every lower place
pub record FirstFailure (xs : List ℕ) (n p : ℕ) : Type 0 where
  pub fails : rule xs n p ≡ false
  pub earlier : (m : ℕ) → m < n → (q : ℕ) → rule xs m q ≡ true
  pub lower : (q : ℕ) → q < p → rule xs n q ≡ true
