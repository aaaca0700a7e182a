-- `needs::calls::put_callers` meets its contract. The loop's invariant: each predicate's set has those whose first k clauses call it. Assumes nothing.
use mathlib.Core.Path.{sym}
use native.Mathlib.Omega.{arith}
use Rattle.needs.proofs.Laws.Calls.{gathering_start, gathering_next}
use Rattle.needs.proofs.calls.put_callers.Goals as goal

pub loop-k-init : goal.loop-k-init
loop-k-init c = gathering_start c.args.book.now.rules c.args.book.now.clauses c.args.callers.now c.requires.2

pub loop-k-preserved : goal.loop-k-preserved
loop-k-preserved c = gathering_next c.loop-k.invariant (omega arith) (rw (sym c.clause.ensures) c.add_caller.ensures)
