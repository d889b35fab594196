use Rattle.numerals.specs.Numerals.{placed, spelled, spell}
use mathlib.Core.Path.{◌≡◌}
use Rattle.numerals.proofs.put.Given as goal

abbrev pub invariant-loop-k : goal.invariant-loop-k
invariant-loop-k l = placed l.at (spelled l.fn.numeral.base l.fn.numeral.nought l.k l.n) l.buffer ≡ placed l.at (spell l.width l.fn.numeral) l.initial.buffer
