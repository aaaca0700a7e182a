-- `page::answer_run` meets its contract. Each turn reads a query behind those read, writes its answer behind theirs and counts it; the room left for queries
-- falls. Assumes nothing.
use Prim.Native.Nat.{◌-◌}
use Rattle.page.proofs.Laws.Asking.{Asking}
use Rattle.page.proofs.answer_run.Given as goal

abbrev pub invariant-loop-tally : goal.invariant-loop-tally
invariant-loop-tally l = Asking l.ar.list.now l.run l.table l.initial.image l.image l.n l.left l.size l.tally

abbrev pub decreases-loop-tally : goal.decreases-loop-tally
decreases-loop-tally l = 256 - l.n
