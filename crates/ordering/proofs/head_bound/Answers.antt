-- `ordering::head_bound` meets its contract. The loop's invariant: what the first i positions bind is bound. Assumes nothing.
use native.Mathlib.Omega.{arith}
use Rattle.book.specs.Held.{head_in}
use Rattle.ordering.proofs.Laws.Steps.{heading_start, heading_next}
use Rattle.ordering.proofs.Laws.Bound.{bound_of_zero, shift_true, shift_false}
use Rattle.ordering.proofs.head_bound.Goals.{then-pattern-i-eq1, else-pattern-i-eq1}
use Rattle.ordering.proofs.head_bound.Goals as goal

pub loop-i-init : goal.loop-i-init
loop-i-init c = rw bound_of_zero (heading_start c.args.pattern (head_in c.args.head.word).args)

pub loop-i-preserved : goal.loop-i-preserved
loop-i-preserved c =
    let n = c.arguments-i-end.ensures.value in
    let l = c.loop-i in
    let a = c.args.pattern in
    heading_next l.invariant (omega arith)
    (elim c.if-pattern-i-eq1.branch [
      | then-pattern-i-eq1 w ↦ rw (w.b-is, shift_true a l.i w.if-pattern-i-eq1.true, ← w.argument.ensures) w.bind_var-b.ensures
      | else-pattern-i-eq1 w ↦ rw (w.b-is, shift_false a l.i w.if-pattern-i-eq1.false)
    ])
