-- `reporting::Taking::take` meets its contract: line after line, what is taken of the piece so far has led to the run and to the text. Assumes nothing.
use Rattle.reporting.proofs.FeedLaws.{takes_kept, takes_line, takes_none}
use mathlib.Core.Path.{refl}
use Rattle.reporting.proofs.Taking.take.Goals as goal

pub loop-at-init : goal.loop-at-init
loop-at-init c = takes_none c.args.self.now _ _

pub loop-at-preserved-then-end-piece : goal.loop-at-preserved-then-end-piece
loop-at-preserved-then-end-piece c =
    let end = c.line_end-end in
    takes_kept c.loop-at.invariant end.result end.ensures.value end.ensures.upper_bound c.hold.ensures.short refl c.hold.ensures.held

pub loop-at-preserved : goal.loop-at-preserved
loop-at-preserved c =
    let end = c.line_end-end in
    let t = c.take_ended.ensures in
    takes_line c.loop-at.invariant end.result end.ensures.value end.ensures.upper_bound t.short c.if-end-piece.false t.tells t.ended
