-- `needs::round::good_patterns` meets its contract. The loop goes over the clauses of the set; its invariant: those of the patterns that are left are good
-- under the clauses passed. Where none is left, none is under all. Assumes nothing.
use Rattle.masks.specs.Set.{members}
use Rattle.masks.proofs.Laws.Loops.{Over}
use Rattle.needs.proofs.Laws.Trying.{Tried}
use Rattle.needs.proofs.round.good_patterns.Given as goal

abbrev pub invariant-loop-k : goal.invariant-loop-k
invariant-loop-k l = Over (Tried l.book.rules l.own l.table l.had l.set) l.own (members l.k-iterator.left)
