-- A text as long as an edition whose elements are legal and whose ties hold is a record of that edition; and every element of such a record is legal, those with it that the edition
-- lacks. Assumes nothing.
use mathlib.Core.Path.{◌≡◌, refl, ap, ◌∙◌}
use mathlib.Core.Bool.{Bool, true, false}
use mathlib.Core.List.{List}
use Prim.Native.Nat.{ℕ, ◌-◌, ◌≤◌}
use native.Mathlib.Omega.{arith}
use borrow.Author.Tests.{leb-true, leb-false}
use lib.Dec.{leb}
use lib.ListN.{length}
use Rattle.text.specs.Bytes.{printable}
use Rattle.text.proofs.Every.{every_at}
use Rattle.layout.specs.declared.Edition.{Edition}
use Rattle.layout.specs.Editions.{length_of, last_of, edition_of}
use Rattle.layout.specs.Page.{legal}
use Rattle.layout.proofs.Beyond.{last_above, legal_none}
use Rattle.layout.proofs.Demand2Columns.{column_1, column_111}
use Rattle.layout.proofs.RecordLaws.{shortest}
use Rattle.ties.specs.Ties.{tie}
use Rattle.checking.specs.Check.{known_format}
use Rattle.checking.specs.Acceptable.{Acceptable}
use Rattle.checking.proofs.Placed.{column_at, first_of_lem}
use Rattle.checking.proofs.PrintLaws.{record_prints, format_digit, edition_digit}

pub legal_record : (ed : Edition) (xs : List ℕ) → length xs ≡ length_of ed → ((e : ℕ) → 1 ≤ e → e ≤ last_of ed → legal ed xs e ≡ true) →
    ((k : ℕ) → tie ed xs k ≡ true) → Acceptable ed xs
legal_record ed xs long lawful tied =
    let short = shortest ed in
    let prints = record_prints ed xs long lawful in
    record {
      names = ap edition_of (first_of_lem xs 65 111 column_111 (omega arith)) ∙ edition_digit ed xs (omega arith) (lawful 65 (omega arith) (omega (arith, last_above ed)));
      full = long;
      prints = λ c h l. ap printable (column_at xs c h l) ∙ every_at printable xs prints (c - 1) (omega arith);
      format = ap known_format (first_of_lem xs 1 1 column_1 (omega arith)) ∙ format_digit ed xs (omega arith) (lawful 1 (omega arith) (omega (arith, last_above ed)));
      lawful = lawful;
      tied = tied;
    }

pub all_legal : (ed : Edition) (xs : List ℕ) → Acceptable ed xs → (e : ℕ) → 1 ≤ e → legal ed xs e ≡ true
all_legal ed xs a e h = by (leb e (last_of ed)) refl
  where
    by : (x : Bool) → leb e (last_of ed) ≡ x → legal ed xs e ≡ true
    by true f = a.lawful e h (leb-true _ _ f)
    by false f = legal_none ed xs a.full e (leb-false _ _ f)
