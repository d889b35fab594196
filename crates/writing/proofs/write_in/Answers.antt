-- `writing::write_in` meets its contract. Assumes nothing.
use Rattle.refusals.specs.Lent.{verdict_of}
use Rattle.refusals.proofs.LentLaws.{refuses, cramped, writes}
use Rattle.writing.proofs.WriteLaws.{breaks, filled_up, fitting, is_record, not_fitting, not_writable, record_length, spelled, writable}
use mathlib.Core.Path.{◌∙◌, refl, sym}
use native.Mathlib.Omega.{arith}
use Rattle.writing.proofs.write_in.Goals as goal

pub slice_bounds-record-end : goal.slice_bounds-record-end
slice_bounds-record-end c =
    record_length (spelled c.put_all.ensures c.put_all.auto.row c.length-length.ensures)

pub first_unwritten-requires : goal.first_unwritten-requires
first_unwritten-requires c =
    let length = c.length-length.ensures in
    sym (record_length (spelled c.put_all.ensures c.put_all.auto.row length)) ∙ length

pub returns-in-Some : goal.returns-in-Some
returns-in-Some c =
    let s = spelled c.put_all.ensures c.put_all.auto.row c.length-length.ensures in
    refuses _ _ verdict_of (not_writable _ _ _ (is_record s) _ (sym c.in-Some.ensures) _ c.lead_of.ensures) refl

pub returns-in-Some-first_broken : goal.returns-in-Some-first_broken
returns-in-Some-first_broken c =
    let s = spelled c.put_all.ensures c.put_all.auto.row c.length-length.ensures in
    refuses _ _ verdict_of (breaks _ _ _ (is_record s) (sym c.in_default.ensures) _ (sym c.in-Some-first_broken.ensures)) refl

pub returns-then-buffer-length : goal.returns-then-buffer-length
returns-then-buffer-length c =
    let s = spelled c.put_all.ensures c.put_all.auto.row c.length-length.ensures in
    cramped _ _ verdict_of (writable _ _ _ (is_record s) (sym c.in_default.ensures) (sym c.in_default-first_broken.ensures)) (not_fitting s c.if-buffer-length.true) refl

pub copy-requires : goal.copy-requires
copy-requires c =
    omega (arith, record_length (spelled c.put_all.ensures c.put_all.auto.row c.length-length.ensures), c.if-buffer-length.false)

pub returns : goal.returns
returns c =
    let s = spelled c.put_all.ensures c.put_all.auto.row c.length-length.ensures in
    writes _ _ verdict_of (writable _ _ _ (is_record s) (sym c.in_default.ensures) (sym c.in_default-first_broken.ensures)) (fitting s c.if-buffer-length.false) (filled_up s _ _ c.copy.ensures) refl
