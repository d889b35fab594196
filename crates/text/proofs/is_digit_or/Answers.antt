-- `text::is_digit_or` meets its contract. Assumes nothing.
use Rattle.std.proofs.Common.{◌∙◌, rules}
use Rattle.std.proofs.lemmas.Iterator.{YieldsList-from_slice}
use Rattle.std.proofs.lemmas.Iterator.Search.{all_from_yields_List}
use Rattle.text.specs.LegalTexts.{allows, digit_or}
use Rattle.text.proofs.Every.{all_every}
use borrow.Author.Tests.{tests}
use Rattle.text.proofs.is_digit_or.Goals as goal

pub returns : goal.returns
unfolding allows
returns c = all_from_yields_List (digit_or c.args.x) _ _ _ c.all.ensures.ran (YieldsList-from_slice c.args.text.now cc) (λ x b q k. search (rules, tests)) ∙ all_every _ _
