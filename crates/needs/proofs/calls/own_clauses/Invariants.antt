-- `needs::calls::own_clauses` meets its contract. The loop's invariant: each predicate's set has its own of the first k clauses, and the heads' predicates
-- are told. Assumes nothing.
use Rattle.book.proofs.Laws.Sets.{Owning}
use Rattle.needs.proofs.Laws.Calls.{Heading}
use Rattle.needs.proofs.calls.own_clauses.Given as goal

abbrev pub invariant-loop-k : goal.invariant-loop-k
invariant-loop-k l = Owning l.book.rules l.book.clauses l.k l.own × Heading l.book.rules l.book.clauses l.k l.heads
