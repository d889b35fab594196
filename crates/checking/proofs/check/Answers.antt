-- `checking::check` meets its contract. Assumes nothing.
use mathlib.Core.Path.{sym}
use Rattle.checking.proofs.Demand2Acceptance.{accepted_exactly}
use Rattle.checking.proofs.LegalLaws.{legal_record}
use Rattle.checking.proofs.check.Goals as goal

pub returns-in-Some : goal.returns-in-Some
returns-in-Some c =
    let s = c.edition_of.ensures _ c.in-Some.is in
    sym ((accepted_exactly _ _).1 (legal_record _ _ s.full s.lawful s.tied))
