-- `writing::put_clauses` meets its contract. The loop's invariant: the first k clauses are written. Assumes nothing.
use Prim.Native.Nat.{min}
use Rattle.book.specs.Limits.{max_clauses}
use Rattle.writing.proofs.Laws.Chunks.{Writing}
use Rattle.writing.proofs.Laws.Runs.{clauses_to, clause_bytes_at}
use Rattle.writing.proofs.put_clauses.Given as goal

abbrev pub invariant-loop-k : goal.invariant-loop-k
invariant-loop-k l = Writing l.n (clauses_to l.book.rules) (clause_bytes_at l.book.rules) (clauses_to l.book.rules (min l.book.clauses max_clauses)) l.initial.out l.at l.k l.out l.p
