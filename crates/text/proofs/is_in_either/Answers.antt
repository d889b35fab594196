-- `text::is_in_either` meets its contract. Assumes nothing.
use Rattle.std.proofs.Common.{rules}
use Rattle.text.proofs.Numbers.{if_digits}
use Rattle.text.specs.Bytes.{either}
use Rattle.text.specs.LegalTexts.{allows}
use Rattle.text.proofs.is_in_either.Goals as goal

pub returns : goal.returns
unfolding allows
returns c = if_digits (either _ _ _ _) _ _ _ _ c.digits_in.ensures c.is_some_and.ensures (λ n q. search rules)
