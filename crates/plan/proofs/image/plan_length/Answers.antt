-- `plan::image::plan_length` meets its contract. The loop's invariant: the total is the length of the query's part and of the rows of the first p
-- predicates. Assumes nothing.
use native.Mathlib.Omega.{arith}
use Rattle.plan.proofs.Laws.Lengths.{planning_start, planning_next, planning_skip, planning_end}
use Rattle.plan.proofs.image.plan_length.Goals.{then-own-p-ne0, else-own-p-ne0}
use Rattle.plan.proofs.image.plan_length.Goals as goal

pub loop-p-init : goal.loop-p-init
loop-p-init c =
    let s = c.args in
    let e = rw c.query.ensures at c.subgoals-total.ensures.value in
    planning_start s.book.now.preds s.book.now.rules s.own.now s.reached.now (omega arith)

pub loop-p-preserved : goal.loop-p-preserved
loop-p-preserved c =
    let d = c.loop-p.invariant in
    elim c.if-own-p-ne0.branch [
      | then-own-p-ne0 u ↦ rw u.total-is (planning_next d (omega arith) u.rows_length.ensures.value (u.count.ensures.value, u.count.ensures.upper_bound))
      | else-own-p-ne0 u ↦ rw u.total-is (planning_skip d (omega arith) u.if-own-p-ne0.false)
    ]

pub returns : goal.returns
returns c = planning_end c.loop-p.invariant (omega arith)
