-- `lanes::bind_lanes` meets its contract. A negated subgoal binds nothing. The loop's invariant: the contract for the first i arguments. Assumes nothing.
use Rattle.book.specs.Held.{call_in}
use Rattle.lanes.specs.Lanes.{Binds}
use Rattle.lanes.proofs.Laws.Steps.{up_to}
use Rattle.lanes.proofs.bind_lanes.Given as goal

abbrev pub invariant-loop-i : goal.invariant-loop-i
invariant-loop-i l = Binds (up_to (call_in l.s.word).pred (call_in l.s.word).args l.i) l.r l.initial.vars l.vars
