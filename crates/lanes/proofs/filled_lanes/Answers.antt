-- `lanes::filled_lanes` meets its contract. The loop's invariant: the word has the lanes in which the first i arguments are bound. Assumes nothing.
use native.Mathlib.Omega.{arith}
use Rattle.book.specs.Held.{head_in}
use Rattle.lanes.proofs.Laws.Steps.{filling_start, filling_next}
use Rattle.lanes.proofs.filled_lanes.Goals as goal

pub loop-i-init : goal.loop-i-init
loop-i-init c = filling_start c.args.vars.now (head_in c.args.call.word).args

pub loop-i-preserved : goal.loop-i-preserved
loop-i-preserved c =
    let l = c.loop-i in
    let args = c.args in
    let n = c.arguments-i-end.ensures.value in
    filling_next args.vars.now (head_in args.call.word).args l.i c.arg_lanes-filled.result (omega arith) (rw (← c.argument.ensures) c.arg_lanes-filled.ensures) l.invariant
