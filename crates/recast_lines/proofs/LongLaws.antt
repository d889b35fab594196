-- What the recast report says of a line that is too long for a record. Assumes nothing.
use mathlib.Core.Path.{◌≡◌, ap}
use mathlib.Core.Bool.{true}
use mathlib.Core.List.{List}
use Prim.Native.Nat.{ℕ, ◌<◌}
use lib.ListN.{length}
use Rattle.layout.specs.declared.Edition.{Edition}
use Rattle.refusals.specs.declared.Refusal.TheVariants.{Length}
use Rattle.layout.specs.Editions.{edition_number}
use Rattle.checking.specs.Check.{Answer}
use Rattle.checking.proofs.CheckLaws.{too_long}
use Rattle.refusals.specs.Lent.{in_room}
use Rattle.std.proofs.Common.{is_err}
use Rattle.recasting.specs.Recast.{Outcome, recast_after, outcome_in, unrecast}
use Rattle.report_lines.specs.Sentences.{refused_line}
use Rattle.recast_lines.specs.Sentences.{outcome_for, recast_line, recast_said, recast_refused}

module _ (line : List ℕ) (long : 159 < length line) (edition : Edition) where
  long_outcome : outcome_for edition line ≡ unrecast Length
  unfolding recast_after in_room
  long_outcome = ap (λ (a : Answer). outcome_in 159 (recast_after a line (edition_number edition))) (too_long line long)

  pub long_said : (n : ℕ) → recast_said edition n line ≡ refused_line n Length
  long_said n = ap (recast_line n) long_outcome

  pub long_refused : recast_refused edition line ≡ true
  long_refused = ap (λ (o : Outcome). is_err o) long_outcome
