-- `layout::page::is_legal_at` meets its contract. Assumes nothing.
use Rattle.layout.proofs.Elements.{legal_of}
use Rattle.layout.proofs.page.is_legal_at.Goals as goal

pub returns : goal.returns
returns c = legal_of _ _ _ _ c.text_of.ensures.result_value _ c.is_legal.ensures
