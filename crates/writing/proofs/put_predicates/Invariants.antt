-- `writing::put_predicates` meets its contract. The loop's invariant: the predicates passed are written. Assumes nothing.
use lib.ListN.{length}
use Rattle.writing.proofs.Laws.Chunks.{Writing}
use Rattle.writing.proofs.Laws.Runs.{predicates_to, predicate_at}
use Rattle.writing.proofs.put_predicates.Given as goal

abbrev pub invariant-loop-arity : goal.invariant-loop-arity
invariant-loop-arity l = Writing (length l.arity-items) (predicates_to l.arity-items) (predicate_at l.arity-items) (predicates_to l.arities l.preds) l.initial.out l.at l.arity-index l.out l.p
