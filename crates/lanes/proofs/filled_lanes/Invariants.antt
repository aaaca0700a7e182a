-- `lanes::filled_lanes` meets its contract. The loop's invariant: the word has the lanes in which the first i arguments are bound. Assumes nothing.
use Rattle.book.specs.Held.{head_in}
use Rattle.lanes.proofs.Laws.Steps.{Filling}
use Rattle.lanes.proofs.filled_lanes.Given as goal

abbrev pub invariant-loop-i : goal.invariant-loop-i
invariant-loop-i l = Filling l.vars (head_in l.call.word).args l.i l.filled
