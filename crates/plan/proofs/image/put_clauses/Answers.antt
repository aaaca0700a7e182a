-- `plan::image::put_clauses` meets its contract. The loop goes over the clauses of the set; its invariant: the rows of those passed are written.
-- Assumes nothing.
use Rattle.plan.specs.Lent.{clause_rows}
use Rattle.plan.proofs.Laws.Rows.{rows_start, rows_low, rows_member, rows_room, rows_next, rows_end}
use Rattle.plan.proofs.image.put_clauses.Goals as goal

pub loop-k-init : goal.loop-k-init
unfolding clause_rows
loop-k-init c = rw (c.into_iter-k-iterator.ensures.into_iter_gives, c.of-k-items.ensures) (rows_start c.requires.1)

pub put_row-p-requires : goal.put_row-p-requires
put_row-p-requires c =
    let m = c.loop-k.invariant in
    let e = c.in-Some.ensures.steps in
    let l = rows_low m e in
    (l, c.requires.0 _ l (rows_member m e), rows_room m e)

pub loop-k-preserved : goal.loop-k-preserved
loop-k-preserved c = rows_next c.loop-k.invariant c.in-Some.ensures.steps c.put_row-p.ensures

pub returns : goal.returns
unfolding clause_rows
returns c = rows_end c.loop-k.invariant c.in-None.ensures.steps.0
