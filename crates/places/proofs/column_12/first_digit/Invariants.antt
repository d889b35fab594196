use Rattle.places.proofs.DigitLaws.{leaves}
use Rattle.places.proofs.column_12.first_digit.Given as goal

-- what is left to look at says the same as the whole
abbrev pub invariant-loop-b : goal.invariant-loop-b
invariant-loop-b l = leaves l.way.from l.way.to l.figures.digit l.figures.latitude l.figures.longitude l.b
