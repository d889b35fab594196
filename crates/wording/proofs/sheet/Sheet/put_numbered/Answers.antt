-- `Sheet::put_numbered` meets its contract. Assumes nothing.
use Rattle.wording.proofs.PutLaws.{then}
use Rattle.wording.proofs.sheet.Sheet.put_numbered.Goals as goal

pub returns : goal.returns
returns c = then c.put_text.ensures c.put_number.ensures
