-- `text::digits_in` meets its contract. Assumes nothing.
use Rattle.std.proofs.Common.{rules}
use Rattle.text.proofs.Numbers.{said}
use Rattle.text.proofs.digits_in.Goals as goal

pub returns : goal.returns
returns c = said _ _ _ _ c.all_between.ensures c.then.ensures.variant c.then.ensures.some (λ n q. search rules)
