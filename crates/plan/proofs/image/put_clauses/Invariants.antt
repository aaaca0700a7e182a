-- `plan::image::put_clauses` meets its contract. The loop goes over the clauses of the set; its invariant: the rows of those passed are written.
-- Assumes nothing.
use Rattle.masks.specs.Set.{members}
use Rattle.choices.specs.Plan.{enc_row}
use Rattle.plan.specs.Lent.{row_by}
use Rattle.plan.proofs.Laws.Rows.{Rows}
use Rattle.plan.proofs.image.put_clauses.Given as goal

abbrev pub invariant-loop-k : goal.invariant-loop-k
invariant-loop-k l = Rows l.own (λ k. enc_row (row_by l.book.rules l.table k l.a)) l.initial.out l.at (members l.k-iterator.left) l.out l.p
