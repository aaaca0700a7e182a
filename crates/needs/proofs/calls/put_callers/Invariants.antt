-- `needs::calls::put_callers` meets its contract. The loop's invariant: each predicate's set has those whose first k clauses call it. Assumes nothing.
use Rattle.needs.proofs.Laws.Calls.{Gathering}
use Rattle.needs.proofs.calls.put_callers.Given as goal

abbrev pub invariant-loop-k : goal.invariant-loop-k
invariant-loop-k l = Gathering l.book.rules l.book.clauses l.k l.callers
