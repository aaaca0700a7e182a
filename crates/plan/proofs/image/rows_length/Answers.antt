-- `plan::image::rows_length` meets its contract. The loop goes over the clauses of the set; its invariant: the total is the length of the rows of
-- those passed. Assumes nothing.
use native.Mathlib.Omega.{arith}
use Rattle.plan.proofs.Laws.Lengths.{adding_start, adding_low, adding_most, adding_next, adding_end, rows_most}
use Rattle.plan.proofs.image.rows_length.Goals as goal

pub loop-k-init : goal.loop-k-init
loop-k-init c = rw (c.into_iter-k-iterator.ensures.into_iter_gives, c.of-k-items.ensures) (adding_start c.args.book.now.rules c.args.own)

pub clause-requires : goal.clause-requires
clause-requires c = let l = adding_low c.loop-k.invariant c.in-Some.ensures.steps in omega arith

pub overflow_add-total-in-loop-k : goal.overflow_add-total-in-loop-k
overflow_add-total-in-loop-k c =
    let m = adding_most c.loop-k.invariant c.in-Some.ensures.steps (rw c.clause.ensures at c.subgoals.ensures.value) in
    omega arith

pub loop-k-preserved : goal.loop-k-preserved
loop-k-preserved c = adding_next c.loop-k.invariant c.in-Some.ensures.steps (rw c.clause.ensures at c.subgoals.ensures.value)

pub returns : goal.returns
returns c =
    let e = adding_end c.loop-k.invariant c.in-None.ensures.steps.0 in
    let m = rows_most c.args.book.now.rules c.args.own in
    record { value = e; upper_bound = omega arith }
