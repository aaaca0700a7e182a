-- `masks::constraint::written` meets its contract. The outer loop goes over the members of the set; its invariant: of the masks passed, those that the
-- written form keeps are kept. The inner loop's: none of the kept masks passed is contained in m. Assumes nothing.
use Rattle.masks.specs.Set.{members}
use Rattle.masks.proofs.Laws.Loops.{Over}
use Rattle.masks.proofs.Laws.Kept.{Kept, Clear}
use Rattle.masks.proofs.constraint.written.Given as goal

abbrev pub invariant-loop-k : goal.invariant-loop-k
invariant-loop-k l = Over (Clear l.kept l.m) l.kept (members l.k-iterator.left)

abbrev pub invariant-outer : goal.invariant-outer
invariant-outer l = Over (Kept l.set l.kept) l.set (members l.m-iterator.left)
