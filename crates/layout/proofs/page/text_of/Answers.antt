-- `layout::page::text_of` meets its contract. Assumes nothing.
use Rattle.layout.proofs.Parts.{own_columns, own_width}
use mathlib.Core.Path.{◌≡◌}
use Rattle.layout.specs.Page.{text_of}
use Rattle.layout.proofs.page.text_of.Goals.{After-columns}
use Rattle.layout.proofs.page.text_of.Goals as goal

own : (c : After-columns) → c.columns.result.now ≡ text_of c.args.e c.args.line.now
own c = own_columns _ _ _ _ _ c.start_of.ensures c.width_of.ensures c.columns.ensures.result_value

pub returns-clause-result_value : goal.returns-clause-result_value
returns-clause-result_value c =
    own c

pub returns-clause-result_len_bound : goal.returns-clause-result_len_bound
returns-clause-result_len_bound c =
    own_width _ _ c.args.e (own c)
