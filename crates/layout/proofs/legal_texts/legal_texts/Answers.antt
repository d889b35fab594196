-- `layout::legal_texts::legal_texts` meets its contract: an arm a run of flags, and the last where there is no element. Assumes nothing.
use Rattle.layout.proofs.LegalTexts.{flags, later_flags, past_last, NoneFrom, others, behind}
use Rattle.layout.proofs.legal_texts.legal_texts.Goals as goal

-- no arm of a single element took it: from 1 on it is behind element 65
pub returns-in-66-to-85 : goal.returns-in-66-to-85
returns-in-66-to-85 c =
    let e = c.args.e in
    let early : Type 0 = NoneFrom e 1 Unit 65 in
    let passed = behind e 1 Unit 65 (others e 86 early 8 c.in-66-to-85.in_default-own.rest) in
    flags c.args.edition _ _ (passed c.in-66-to-85.if-e-lt1-own.false) c.in-66-to-85.if-e-lt86-own.true c.in_edition-in-66-to-85.ensures

-- and from 86 on behind element 93
pub returns-in-94-to-101 : goal.returns-in-94-to-101
returns-in-94-to-101 c =
    let e = c.args.e in
    let early : Type 0 = NoneFrom e 1 Unit 65 in
    let passed = behind e 86 early 8 c.in-94-to-101.in_default-own.rest in
    later_flags c.args.edition _ _ (passed c.in-94-to-101.if-e-lt86-own.false) c.in-94-to-101.if-e-lt102-own.true c.in_edition-in-94-to-101.ensures

pub returns-in_default-2 : goal.returns-in_default-2
returns-in_default-2 c = past_last c.args.edition _ c.in_default.if-e-lt102-own.false
