-- `octets::find` meets its contract. Assumes nothing.
use lib.Dec.{eqb}
use borrow.Author.Tests.{tests}
use Rattle.std.proofs.Common.{rules, ◌≡◌, arith, ap, sym, ◌∙◌, ◌-◌, ◌+◌, ℕ, List, unwrap_or, length, take, drop, length-drop, take_all}
use Rattle.std.proofs.lemmas.Iterator.{YieldsList-from_slice}
use Rattle.std.proofs.lemmas.Iterator.Search.{position_from_yields_List}
use Rattle.octets.specs.Octets.{index_of}
use Rattle.octets.proofs.SearchLaws.{found}
use Rattle.octets.proofs.find.Goals as goal

pub returns-in-Some-clause-first : goal.returns-in-Some-clause-first
returns-in-Some-clause-first c =
    let rest : List ℕ = take (length c.args.bytes.now - c.args.at) (drop c.args.at c.args.bytes.now) in
    let p = position_from_yields_List {all = rest} (λ x. eqb x c.args.byte) _ _ _ c.position.ensures.ran (YieldsList-from_slice rest cc) (λ x b q k. search (rules, tests)) in
    ap (λ n. c.args.at + n)
    (found c.args.byte rest _ _ p (sym (ap (λ o. unwrap_or o (length rest)) c.in-Some.is)) ∙ ap (index_of c.args.byte) (take_all _ _ (rw length-drop (omega arith))))

pub returns-in-None-clause-first : goal.returns-in-None-clause-first
returns-in-None-clause-first c =
    let rest : List ℕ = take (length c.args.bytes.now - c.args.at) (drop c.args.at c.args.bytes.now) in
    let p = position_from_yields_List {all = rest} (λ x. eqb x c.args.byte) _ _ _ c.position.ensures.ran (YieldsList-from_slice rest cc) (λ x b q k. search (rules, tests)) in
    let all = take_all (length c.args.bytes.now - c.args.at) (drop c.args.at c.args.bytes.now) (rw length-drop (omega arith)) in
    let left : length (drop c.args.at c.args.bytes.now) ≡ length c.args.bytes.now - c.args.at = length-drop _ _ in
    let end : length c.args.bytes.now ≡ c.args.at + length rest = omega (arith, ap length all, left) in
    end ∙ ap (λ n. c.args.at + n) (found c.args.byte rest _ _ p (sym (ap (λ o. unwrap_or o (length rest)) c.in-None.is)) ∙ ap (index_of c.args.byte) all)
