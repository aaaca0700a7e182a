-- `lanes::head_lanes` meets its contract. The loop's invariant: in each lane, what the first i positions bind is bound. Assumes nothing.
use Rattle.book.specs.Held.{head_in}
use Rattle.lanes.proofs.Laws.Steps.{Headed}
use Rattle.lanes.proofs.head_lanes.Given as goal

abbrev pub invariant-loop-i : goal.invariant-loop-i
invariant-loop-i l = Headed (head_in l.head.word).args l.i l.vars
