-- `reading::read_modes` meets its contract. Each turn stores the modes of a predicate above those before it; the bytes left fall. Assumes nothing.
use lib.ListN.{length}
use Rattle.reading.proofs.Laws.Moding.{Moding}
use Rattle.reading.proofs.read_modes.Given as goal

abbrev pub invariant-loop-left : goal.invariant-loop-left
invariant-loop-left l = Moding l.ar.list.now l.s l.left l.low l.with_mode l.initial.modes l.modes

abbrev pub decreases-loop-left : goal.decreases-loop-left
decreases-loop-left l = length l.left
