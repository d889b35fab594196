-- `writing::first_unwritten` meets its contract: the loop stands at element e, and what is left to look at says the same as the whole. Assumes nothing.
use Rattle.checking.proofs.Demand2Acceptance.{accepted_exactly}
use Rattle.checking.proofs.LegalLaws.{all_legal}
use Rattle.layout.specs.Editions.{length_of}
use Rattle.reading.proofs.EntryLaws.{read_back}
use Rattle.text.proofs.First.{begin, end, off, on, some_nonzero, none_nonzero}
use Rattle.text.specs.First.{nonzero}
use Rattle.writing.specs.Written.{writes}
use mathlib.Core.Path.{◌∙◌, ◌≡◌, ap, sym}
use native.Mathlib.Omega.{arith}
use Rattle.writing.proofs.first_unwritten.Goals.{After-is_written}
use Rattle.writing.proofs.first_unwritten.Goals as goal

-- what the test answers
answers : (c : After-is_written) → c.is_written.result ≡ writes c.args.edition c.args.entries c.args.text.now c.loop-e.e
unfolding writes
answers c =
    let reads = read_back _ c.args.text.now c.read_after-back.result c.read_after-back.ensures c.loop-e.e c.loop-e.auto.e (omega arith) in
    c.is_written.ensures ∙ rw reads

-- where a check accepts the text, the element is legal
pub is_written-requires : goal.is_written-requires
is_written-requires c = λ known. all_legal _ _ ((accepted_exactly _ _).0 (c.is_accepted-is_known.ensures known)) c.loop-e.e c.loop-e.auto.e

pub read_after-back-requires : goal.read_after-back-requires
read_after-back-requires c = λ ed a. let same : c.args.edition ≡ ed = cc in c.requires ∙ ap length_of same

pub loop-e-init : goal.loop-e-init
loop-e-init c = begin (writes _ _ _) 101

pub returns-then-not-is_written : goal.returns-then-not-is_written
returns-then-not-is_written c =
    some_nonzero _ c.loop-e.auto.e ∙ ap nonzero (sym (c.loop-e.invariant ∙ off (writes _ _ _) 101 _ (omega arith) (sym (answers (goal.at.returns-then-not-is_written c).After-is_written) ∙ c.if-not-is_written.true)))

pub loop-e-preserved : goal.loop-e-preserved
loop-e-preserved c =
    c.loop-e.invariant ∙ on (writes _ _ _) 101 _ (omega arith) (sym (answers (goal.at.loop-e-preserved c).After-is_written) ∙ c.if-not-is_written.false)

pub returns : goal.returns
returns c = none_nonzero _ (c.loop-e.invariant ∙ end (writes _ _ _) 101 _ (omega arith))
