-- `ordering::first_ready` meets its contract. The loop goes over the places that are left; its invariant: what the scan comes to is the first of those from
-- here on. A subgoal is ready where it can run with its pattern, which is answered with its place. Assumes nothing.
use Rattle.masks.specs.Set.{members}
use Rattle.masks.proofs.Laws.Loops.{Over}
use Rattle.ordering.specs.Good.{ready_at}
use Rattle.ordering.proofs.Laws.Run.{Scan}
use Rattle.ordering.proofs.first_ready.Given as goal

abbrev pub invariant-loop-place : goal.invariant-loop-place
invariant-loop-place l = Over (Scan l.left (ready_at l.table l.clause.body l.bound)) l.left (members l.place-iterator.left)
