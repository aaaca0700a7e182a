-- `reading::read_body` meets its contract. Each turn adds a subgoal to those read; the room left falls. Assumes nothing.
use Prim.Native.Nat.{◌-◌, ◌*◌}
use Rattle.book.specs.Held.{clause_size}
use Rattle.reading.proofs.Laws.Bodies.{Bodying}
use Rattle.reading.proofs.read_body.Given as goal

abbrev pub invariant-loop-left : goal.invariant-loop-left
invariant-loop-left l = Bodying l.ar.list.now l.s l.n l.left (l.k * clause_size) l.initial.rules l.rules

abbrev pub decreases-loop-left : goal.decreases-loop-left
decreases-loop-left l = 8 - l.n
