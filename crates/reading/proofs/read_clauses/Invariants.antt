-- `reading::read_clauses` meets its contract. Each turn stores a clause behind those read; the room left falls. Assumes nothing.
use Prim.Native.Nat.{◌-◌}
use Rattle.reading.proofs.Laws.Clauses.{Clausing}
use Rattle.reading.proofs.read_clauses.Given as goal

abbrev pub invariant-loop-left : goal.invariant-loop-left
invariant-loop-left l = Clausing l.ar.list.now l.s l.n l.left l.initial.rules l.rules

abbrev pub decreases-loop-left : goal.decreases-loop-left
decreases-loop-left l = 64 - l.n
