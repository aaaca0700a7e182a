-- `lanes::head_lanes` meets its contract. The loop's invariant: in each lane, what the first i positions bind is bound. Assumes nothing.
use mathlib.Core.Path.{ap, ◌∙◌}
use native.Mathlib.Omega.{arith}
use lib.ListN.{length, length-set}
use Rattle.book.specs.Held.{head_in}
use Rattle.masks.proofs.Laws.Patterns.{column}
use Rattle.lanes.proofs.Laws.Steps.{one_var, one_other, headed_start, headed_next}
use Rattle.lanes.proofs.head_lanes.Goals.{then-v-le-LAST_VARIABLE, else-v-le-LAST_VARIABLE}
use Rattle.lanes.proofs.head_lanes.Goals as goal

pub loop-i-init : goal.loop-i-init
loop-i-init c = headed_start (head_in c.args.head.word).args

pub loop-i-preserved : goal.loop-i-preserved
loop-i-preserved c =
    let l = c.loop-i in
    let n = c.arguments-i-end.ensures in
    let v = c.argument-v in
    let next = headed_next (head_in c.args.head.word).args l.i (omega arith) (omega arith) in
    elim c.if-v-le-LAST_VARIABLE.branch [
      | then-v-le-LAST_VARIABLE u ↦
          next (ap length u.vars-is ∙ length-set l.vars _ _) (rw (← v.ensures) (one_var v.result (column l.i) l.vars (omega arith) u.vars-is)) l.invariant
      | else-v-le-LAST_VARIABLE u ↦
          next (ap length u.vars-is) (rw (← v.ensures) (one_other v.result (column l.i) l.vars (omega arith) u.vars-is)) l.invariant
    ]
