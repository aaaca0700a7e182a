-- `needs::calls::add_caller` meets its contract. The loop's invariant: the contract for the first j subgoals. Assumes nothing.
use Rattle.needs.proofs.Laws.Calls.{Adding}
use Rattle.needs.proofs.calls.add_caller.Given as goal

abbrev pub invariant-loop-j : goal.invariant-loop-j
invariant-loop-j l = Adding l.clause l.initial.callers l.j l.callers
