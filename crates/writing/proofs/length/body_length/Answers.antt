-- `writing::length::body_length` meets its contract. The loop's invariant: the total is the length of the first j subgoals. Assumes nothing.
use mathlib.Core.Path.{ap}
use native.Mathlib.Omega.{arith}
use lib.ListN.{length}
use Rattle.book.specs.Book.{Call}
use Rattle.book.proofs.Laws.Bound.{subgoal_size}
use Rattle.writing.proofs.Laws.Chunks.{measuring_start, measuring_next, measuring_end}
use Rattle.writing.proofs.Laws.Runs.{call_at, subgoals_chunks}
use Rattle.writing.proofs.length.body_length.Goals as goal

pub loop-j-init : goal.loop-j-init
loop-j-init c = measuring_start (subgoals_chunks c.args.clause.now.body c.subgoals-j-end.ensures.value)

pub subgoal-requires : goal.subgoal-requires
subgoal-requires c = let e = c.subgoals-j-end.ensures.value in omega arith

pub overflow_add-total-in-loop-j : goal.overflow_add-total-in-loop-j
overflow_add-total-in-loop-j c =
    let e = c.subgoals-j-end.ensures.value in
    let f = c.subgoals-j-end.ensures.upper_bound in
    omega arith

pub loop-j-preserved : goal.loop-j-preserved
loop-j-preserved c =
    let e = c.arguments.ensures.value in
    let f = ap (λ (x : Call). length x.args) c.subgoal.ensures in
    let s = c.args in
    let g = subgoal_size (call_at s.clause.now.body c.loop-j.j) in
    measuring_next c.loop-j.invariant (omega arith) (omega arith) (omega arith)

pub returns : goal.returns
returns c =
    let e = c.subgoals-j-end.ensures.value in
    let f = c.subgoals-j-end.ensures.upper_bound in record { value = measuring_end c.loop-j.invariant (omega arith); upper_bound = omega arith }
