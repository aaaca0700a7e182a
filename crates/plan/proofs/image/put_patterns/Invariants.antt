-- `plan::image::put_patterns` meets its contract. The loop goes over the patterns of the set; its invariant: the rows under those passed are
-- written. Assumes nothing.
use Rattle.masks.specs.Set.{members}
use Rattle.plan.specs.Lent.{clause_rows}
use Rattle.plan.proofs.Laws.Rows.{Rows}
use Rattle.plan.proofs.image.put_patterns.Given as goal

abbrev pub invariant-loop-a : goal.invariant-loop-a
invariant-loop-a l = Rows l.patterns (clause_rows l.book.rules l.table l.own) l.initial.out l.at (members l.a-iterator.left) l.out l.p
