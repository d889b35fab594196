-- `layout::page::full_text` meets its contract. Assumes nothing.
use Rattle.layout.proofs.Elements.{part}
use Rattle.layout.proofs.Parts.{own_width}
use Rattle.layout.proofs.page.full_text.Goals as goal

pub returns-clause-result_value : goal.returns-clause-result_value
returns-clause-result_value c =
    let own = part _ _ _ c.start_of-start.ensures c.width_of.ensures _ in
    own

pub returns-clause-result_len_bound : goal.returns-clause-result_len_bound
returns-clause-result_len_bound c =
    let own = part _ _ _ c.start_of-start.ensures c.width_of.ensures _ in
    own_width _ _ c.args.e own
