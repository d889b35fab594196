-- `checking::check_in_order` meets its contract. Assumes nothing.
use mathlib.Core.Path.{◌∙◌, ap, sym}
use lib.Dec.{lit≤}
use Rattle.layout.specs.declared.Edition.TheVariants.{One}
use Rattle.layout.specs.Editions.{edition_of}
use Rattle.layout.proofs.RecordLaws.{has_first}
use Rattle.checking.specs.Check.{known_format, checked_in}
use Rattle.checking.proofs.CheckLaws.{by_edition, long_enough, unknown_format, unknown_length, unprintable}
use Rattle.checking.proofs.check_in_order.Goals as goal

pub returns-then-not-is_known_length : goal.returns-then-not-is_known_length
returns-then-not-is_known_length c = unknown_length _ _ c.is_known_length.ensures c.if-not-is_known_length.true

pub returns-in-Some : goal.returns-in-Some
returns-in-Some c = unprintable _ _ c.is_known_length.ensures c.if-not-is_known_length.false _ (sym c.in-Some.ensures)

pub first_byte-requires : goal.first_byte-requires
first_byte-requires c =
    has_first One c.args.line.now (long_enough _ _ c.is_known_length.ensures c.if-not-is_known_length.false) _ (lit≤ tt) (lit≤ tt)

pub returns-then-not-is_known_format : goal.returns-then-not-is_known_format
returns-then-not-is_known_format c =
    unknown_format _ _ c.is_known_length.ensures c.if-not-is_known_length.false (sym c.in_default.ensures) (ap known_format (sym c.first_byte.ensures) ∙ sym c.is_known_format.ensures ∙ c.if-not-is_known_format.true)

pub first_byte-requires-2 : goal.first_byte-requires-2
first_byte-requires-2 c =
    has_first One c.args.line.now (long_enough _ _ c.is_known_length.ensures c.if-not-is_known_length.false) _ (lit≤ tt) (lit≤ tt)

pub returns-in_default-of_digit : goal.returns-in_default-of_digit
unfolding checked_in
returns-in_default-of_digit c =
    by_edition _ _ c.is_known_length.ensures c.if-not-is_known_length.false (sym c.in_default.ensures) (ap known_format (sym c.first_byte.ensures) ∙ sym c.is_known_format.ensures ∙ c.if-not-is_known_format.false) _
    (c.in_default-of_digit.ensures ∙ ap edition_of c.first_byte-2.ensures)

pub returns : goal.returns
returns c =
    c.check_in.ensures ∙
    by_edition _ _ c.is_known_length.ensures c.if-not-is_known_length.false (sym c.in_default.ensures) (ap known_format (sym c.first_byte.ensures) ∙ sym c.is_known_format.ensures ∙ c.if-not-is_known_format.false) _
    (c.in-Some-of_digit.ensures ∙ ap edition_of c.first_byte-2.ensures)
