-- `closing::keep_clauses` meets its contract. The loop's invariant: of the first k clauses those that stay are the first n, and the clauses ahead are
-- as they were. Assumes nothing.
use Rattle.masks.specs.Set.{bit_at}
use Rattle.closing.proofs.Laws.Keeping.{Keeping}
use Rattle.closing.proofs.keep_clauses.Given as goal

abbrev pub invariant-loop-k : goal.invariant-loop-k
invariant-loop-k l = Keeping (bit_at l.set) l.initial.rules l.clauses l.k l.n l.rules
