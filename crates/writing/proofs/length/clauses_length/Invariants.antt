-- `writing::length::clauses_length` meets its contract. The loop's invariant: the total is the length of the first k clauses. Assumes nothing.
use Prim.Native.Nat.{min, ◌+◌, ◌*◌}
use Rattle.masks.specs.Limits.{max_arity}
use Rattle.book.specs.Limits.{max_clauses, max_subgoals}
use Rattle.writing.proofs.Laws.Chunks.{Measuring}
use Rattle.writing.proofs.Laws.Runs.{clauses_to, clause_bytes_at}
use Rattle.writing.proofs.length.clauses_length.Given as goal

abbrev pub invariant-loop-k : goal.invariant-loop-k
invariant-loop-k l = Measuring l.n (clauses_to l.book.rules) (clause_bytes_at l.book.rules) (clauses_to l.book.rules (min l.book.clauses max_clauses)) (3 + max_arity + max_subgoals * (3 + max_arity)) l.k l.total
