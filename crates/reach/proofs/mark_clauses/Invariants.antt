-- `reach::mark_clauses` meets its contract. The loop goes over the clauses of the set; its invariant: the calls of those passed are marked.
-- Assumes nothing.
use Rattle.masks.specs.Set.{members}
use Rattle.reach.specs.Marked.{clause_by}
use Rattle.reach.proofs.Laws.Passing.{Passing}
use Rattle.reach.proofs.mark_clauses.Given as goal

abbrev pub invariant-loop-k : goal.invariant-loop-k
invariant-loop-k l = Passing (λ k. clause_by l.book.rules l.table k l.a) l.own l.initial.reached l.reached l.names (members l.k-iterator.left)
