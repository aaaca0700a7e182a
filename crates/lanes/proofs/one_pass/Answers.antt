-- `lanes::one_pass` meets its contract. The loop's invariant: the first j subgoals are visited. Assumes nothing.
use Prim.Native.Nat.{◌<◌, ◌≤◌}
use native.Mathlib.Omega.{arith}
use lib.ListN.{length}
use Rattle.book.specs.Limits.{max_predicates, max_subgoals}
use Rattle.book.specs.Table.{table_in}
use Rattle.lanes.proofs.Laws.Passing.{subgoal, visiting_start, visiting_over, visiting_same, visiting_new}
use Rattle.lanes.proofs.one_pass.Goals.{then-before+then-now-before, then-before+else-now-before, else-before}
use Rattle.lanes.proofs.one_pass.Goals as goal

pub loop-j-init : goal.loop-j-init
loop-j-init c =
    let args = c.args in
    visiting_start (table_in args.table.now max_predicates) args.clause.now.body args.vars.now c.told-placed c.requires.1

pub ready_lanes-r-requires : goal.ready_lanes-r-requires
ready_lanes-r-requires c =
    let n = c.subgoals-j-end.ensures.value in
    (subgoal c.requires.0 (omega arith) c.subgoal-s.ensures).low

pub loop-j-preserved : goal.loop-j-preserved
loop-j-preserved c =
    let l = c.loop-j in
    let n = c.subgoals-j-end.ensures in
    let args = c.args in
    let called = c.requires.0 in
    let T = table_in args.table.now max_predicates in
    let body = args.clause.now.body in
    let few : length body ≤ max_subgoals = omega arith in
    let here : l.j < length body = omega arith in
    elim c.if-before.branch [
      | then-before+then-now-before u ↦
          rw (u.vars-is, u.placed-is, u.good-is, u.moved-is)
          (visiting_new T body args.vars.now l.invariant here few u.ready_lanes-r.result (subgoal called here u.subgoal-s.ensures) u.ready_lanes-r.ensures
          u.bind_lanes.ensures)
      | then-before+else-now-before u ↦
          rw (u.vars-is, u.placed-is, u.good-is, u.moved-is)
          (visiting_same T body args.vars.now l.invariant here few u.ready_lanes-r.result (subgoal called here u.subgoal-s.ensures) u.ready_lanes-r.ensures
          u.if-now-before.false)
      | else-before u ↦ rw (u.vars-is, u.placed-is, u.good-is, u.moved-is) (visiting_over T body args.vars.now l.invariant here few u.if-before.false)
    ]
