-- `text::is_one_of` meets its contract. Assumes nothing.
use Rattle.std.proofs.Common.{rules}
use Rattle.text.proofs.Numbers.{if_digits}
use Rattle.text.specs.LegalTexts.{allows, among}
use Rattle.text.proofs.is_one_of.Goals as goal

pub returns : goal.returns
unfolding allows
returns c = if_digits (among _ _ _ _) _ _ _ _ c.digits_in.ensures c.is_some_and.ensures (λ n q. search rules)
