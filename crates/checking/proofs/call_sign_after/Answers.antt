-- `checking::call_sign_after` meets its contract. Assumes nothing.
use Rattle.text.proofs.Parts.{front_length}
use Rattle.checking.proofs.SignLaws.{long, shown}
use Rattle.checking.specs.Check.{call_sign_of}
use lib.Dec.{lit≤}
use native.Mathlib.Omega.{arith}
use Rattle.checking.proofs.call_sign_after.Goals as goal

pub full_text-part-requires : goal.full_text-part-requires
full_text-part-requires c = long c.args.line.now c.in-Ok.field-0 (c.requires _ c.in-Ok.is) _ (lit≤ tt)

pub slice_bounds-result-end : goal.slice_bounds-result-end
slice_bounds-result-end c = front_length _ _ c.filled-n.ensures.upper_bound

pub returns-in-Ok : goal.returns-in-Ok
returns-in-Ok c =
    let part = c.full_text-part.ensures in
    let filled = c.filled-n.ensures in
    let both = shown _ _ _ _ c.filled-n.result c.in-Ok.is (part.result_value, part.result_len_bound) (filled.upper_bound, filled.text_value) in
    record { result_value = both.0; result_len_bound = both.1 }

pub returns-in-Err-clause-result_value : goal.returns-in-Err-clause-result_value
unfolding call_sign_of
returns-in-Err-clause-result_value c =
    rw c.in-Err.is

pub returns-in-Err-clause-result_len_bound : goal.returns-in-Err-clause-result_len_bound
unfolding call_sign_of
returns-in-Err-clause-result_len_bound c =
    omega arith
