use Prim.Native.Nat.{◌≤◌}
use Rattle.layout.specs.Page.{start_of}
use Rattle.reading.proofs.EntryLaws.{below, holding}
use Rattle.reading.specs.Answers.{entries_of}
use Rattle.reading.specs.Readings.{reading_of}
use mathlib.Core.Path.{◌≡◌}
use Rattle.reading.proofs.read_after.Given as goal

abbrev pub invariant-loop-e : goal.invariant-loop-e
invariant-loop-e l =
    (l.last ≤ 101) × ((l.at ≡ start_of l.e) × (l.all ≡ holding l.initial.all.answer (entries_of (below l.e (reading_of l.edition l.line)))))
