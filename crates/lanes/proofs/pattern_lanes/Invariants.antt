-- `lanes::pattern_lanes` meets its contract. The loop's invariant: the words of the first i arguments are made, and the others are 0. Assumes
-- nothing.
use Rattle.book.specs.Held.{call_in}
use Rattle.lanes.proofs.Laws.Steps.{Words}
use Rattle.lanes.proofs.pattern_lanes.Given as goal

abbrev pub invariant-loop-i : goal.invariant-loop-i
invariant-loop-i l = Words l.vars (call_in l.s.word).args l.i l.words
