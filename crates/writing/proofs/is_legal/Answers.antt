-- `writing::is_legal` meets its contract. Assumes nothing.
use mathlib.Core.Path.{sym}
use Rattle.writing.proofs.is_legal.Goals as goal

pub returns-then-is_known : goal.returns-then-is_known
returns-then-is_known c = sym (c.requires c.if-is_known.true)
