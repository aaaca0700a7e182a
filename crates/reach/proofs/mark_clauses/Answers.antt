-- `reach::mark_clauses` meets its contract. The loop goes over the clauses of the set; its invariant: the calls of those passed are marked.
-- Assumes nothing.
use native.Mathlib.Omega.{arith}
use Rattle.reach.specs.Marked.{clauses_by}
use Rattle.reach.proofs.Laws.Marked.{found_clause, found_none}
use Rattle.reach.proofs.Laws.Passing.{passing_start, passing_low, passing_member, passing_next, passing_none, passing_end}
use Rattle.reach.proofs.mark_clauses.Goals as goal

pub loop-k-init : goal.loop-k-init
loop-k-init c = rw (c.into_iter-k-iterator.ensures.into_iter_gives, c.of-k-items.ensures) passing_start

pub clause-clause-requires : goal.clause-clause-requires
clause-clause-requires c = let h = passing_low c.loop-k.invariant c.in-Some.ensures.steps in omega arith

pub first_order-requires : goal.first_order-requires
first_order-requires c =
    let i = c.loop-k.invariant in
    let e = c.in-Some.ensures.steps in
    rw c.clause-clause.ensures (c.requires _ (passing_low i e) (passing_member i e))

pub mark_calls-names-requires : goal.mark_calls-names-requires
mark_calls-names-requires c =
    let i = c.loop-k.invariant in
    let e = c.in-Some.ensures.steps in
    let o = c.in-Some-first_order.ensures in
    (rw c.clause-clause.ensures (c.requires _ (passing_low i e) (passing_member i e)), (_, _, record { first = o.order; beside = o.patterns }))

pub loop-k-preserved-in-Some-first_order : goal.loop-k-preserved-in-Some-first_order
loop-k-preserved-in-Some-first_order c =
    let o = c.in-Some-first_order.ensures in
    let is = c.clause-clause.ensures in
    passing_next c.loop-k.invariant c.in-Some.ensures.steps
    (rw is at (c.mark_calls-names.ensures _ _ (found_clause _ _ c.args.a _ c.head.ensures c.head_bound-bound.ensures (record { first = o.order; beside = o.patterns }))))

pub loop-k-preserved : goal.loop-k-preserved
loop-k-preserved c =
    passing_none c.loop-k.invariant c.in-Some.ensures.steps
    (rw c.clause-clause.ensures at (found_none _ _ c.args.a _ c.head.ensures c.head_bound-bound.ensures c.in_default.ensures.order))

pub returns : goal.returns
unfolding clauses_by
returns c = passing_end c.loop-k.invariant c.in-None.ensures.steps.0
