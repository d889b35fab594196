-- `reporting::held::Held::hold` meets its contract: what is held is what was held and the bytes passed. Assumes nothing.
use Prim.Native.Nat.{◌+◌}
use Rattle.reporting.proofs.KeepLaws.{keep_end}
use Rattle.std.proofs.lemmas.Slice.{take-put_mid}
use lib.ListN.{length, take}
use lib.Seq.{length-take-le}
use mathlib.Core.List.{◌++◌}
use mathlib.Core.Path.{◌∙◌, ap}
use native.Mathlib.Omega.{arith}
use borrow.Author.Rules.{rules}
use Rattle.reporting.proofs.held.Held.hold.Goals as goal

pub returns-clause-held : goal.returns-clause-held
returns-clause-held c =
    let h = c.self.inside in
    let n = c.min-n in
    let new = c.copy_from_slice.new.self in
    take-put_mid h.length _ h.bytes new (h.length + n.result) (omega (arith, ap length c.copy_from_slice.ensures.after, length-take-le n.result c.args.more.now (omega arith))) (omega arith) ∙
    ap (λ t. take h.length h.bytes ++ t) c.copy_from_slice.ensures.after ∙
    keep_end h.bytes c.args.more.now h.length n.result c.self.invariant (search rules) n.ensures ∙
    ap (λ t. take 160 (t ++ c.args.more.now)) c.self.view_is
