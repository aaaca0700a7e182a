-- `plan::image::rows_length` meets its contract. The loop goes over the clauses of the set; its invariant: the total is the length of the rows of
-- those passed. Assumes nothing.
use Rattle.masks.specs.Set.{members}
use Rattle.plan.proofs.Laws.Lengths.{Adding}
use Rattle.plan.proofs.image.rows_length.Given as goal

abbrev pub invariant-loop-k : goal.invariant-loop-k
invariant-loop-k l = Adding l.book.rules l.own l.total (members l.k-iterator.left)
