-- `plan::image::plan_length` meets its contract. The loop's invariant: the total is the length of the query's part and of the rows of the first p
-- predicates. Assumes nothing.
use Rattle.plan.proofs.Laws.Lengths.{Planning}
use Rattle.plan.proofs.image.plan_length.Given as goal

abbrev pub invariant-loop-p : goal.invariant-loop-p
invariant-loop-p l = Planning l.book.preds l.book.rules l.own l.reached l.p l.total
