-- `plan::image::put_patterns` meets its contract. The loop goes over the patterns of the set; its invariant: the rows under those passed are
-- written. Assumes nothing.
use Rattle.plan.specs.Lent.{pattern_rows}
use Rattle.plan.proofs.Laws.Rows.{rows_start, rows_room, rows_next, rows_end}
use Rattle.plan.proofs.image.put_patterns.Goals as goal

pub loop-a-init : goal.loop-a-init
unfolding pattern_rows
loop-a-init c = rw (c.into_iter-a-iterator.ensures.into_iter_gives, c.of-a-items.ensures) (rows_start c.requires.1)

pub put_clauses-p-requires : goal.put_clauses-p-requires
put_clauses-p-requires c = (c.requires.0, rows_room c.loop-a.invariant c.in-Some.ensures.steps)

pub loop-a-preserved : goal.loop-a-preserved
loop-a-preserved c = rows_next c.loop-a.invariant c.in-Some.ensures.steps c.put_clauses-p.ensures

pub returns : goal.returns
unfolding pattern_rows
returns c = rows_end c.loop-a.invariant c.in-None.ensures.steps.0
