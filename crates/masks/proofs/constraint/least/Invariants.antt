-- `masks::constraint::least` meets its contract. The loop's invariant: the kept are least, and those left are what contains none of them. Assumes nothing.
use Rattle.masks.proofs.Laws.Sets.{Keeping}
use Rattle.masks.proofs.constraint.least.Given as goal

abbrev pub invariant-loop-rest : goal.invariant-loop-rest
invariant-loop-rest l = Keeping l.set l.kept l.rest

abbrev pub decreases-loop-rest : goal.decreases-loop-rest
decreases-loop-rest l = l.rest
