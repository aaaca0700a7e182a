-- `lanes::body_lanes` meets its contract. The loop's invariant: in each lane, so many passes from the start on are done; by the theorem of the passes,
-- the last says where there is a good order. Assumes nothing.
use native.Mathlib.Omega.{arith}
use borrow.Author.Tests.{not-true}
use Rattle.book.specs.Limits.{max_predicates, max_subgoals}
use Rattle.book.specs.Table.{table_in}
use Rattle.lanes.proofs.Laws.Passing.{passing_start, passing_next, passing_good, passing_still, passing_end, passing_ran}
use Rattle.lanes.proofs.body_lanes.Goals.{then-p-via-then-p, then-p-via-else-p+then-not-p}
use Rattle.lanes.proofs.body_lanes.Goals as goal

pub loop-init : goal.loop-init
loop-init c =
    let args = c.args in
    passing_start (table_in args.table.now max_predicates) args.clause.now.body args.vars.now max_subgoals (omega arith)

pub returns-then-p : goal.returns-then-p
returns-then-p c =
    let l = c.loop.invariant in
    let args = c.args in
    let pass = c.one_pass-p.ensures.passed in
    let T = table_in args.table.now max_predicates in
    let body = args.clause.now.body in
    record {
      each_lane = elim c.then-p.branch [
        | then-p-via-then-p u ↦ passing_good T body args.vars.now pass l u.if-p.true
        | then-p-via-else-p+then-not-p u ↦ passing_still T body args.vars.now pass l (not-true _ u.if-not-p.true)
      ];
      each_lane_2 = passing_ran T body args.vars.now pass l;
    }

pub loop-preserved : goal.loop-preserved
loop-preserved c =
    let args = c.args in
    let pass = c.one_pass-p.ensures in
    passing_next (table_in args.table.now max_predicates) args.clause.now.body args.vars.now pass.passed c.loop.invariant pass.placed

pub returns : goal.returns
returns c =
    let l = c.loop.invariant in
    let args = c.args in
    let n = c.subgoals-end.ensures.value in
    let pass = c.one_pass.ensures.passed in
    let T = table_in args.table.now max_predicates in
    let body = args.clause.now.body in
    record { each_lane = passing_end T body args.vars.now pass l (omega arith); each_lane_2 = passing_ran T body args.vars.now pass l }
