-- `reach::mark_patterns` meets its contract. The loop goes over the patterns of the set; its invariant: the calls of the clauses under those passed
-- are marked. Assumes nothing.
use Rattle.reach.specs.Marked.{patterns_by}
use Rattle.reach.proofs.Laws.Passing.{passing_start, passing_next, passing_end}
use Rattle.reach.proofs.mark_patterns.Goals as goal

pub loop-a-init : goal.loop-a-init
loop-a-init c = rw (c.into_iter-a-iterator.ensures.into_iter_gives, c.of-a-items.ensures) passing_start

pub loop-a-preserved : goal.loop-a-preserved
loop-a-preserved c = passing_next c.loop-a.invariant c.in-Some.ensures.steps c.mark_clauses-names.ensures

pub returns : goal.returns
unfolding patterns_by
returns c = passing_end c.loop-a.invariant c.in-None.ensures.steps.0
