-- `reach::reach` meets its contract. The loop's invariant: what is marked is reached, what is gone over has its calls marked, and a predicate with
-- more marked than is gone over has work; with no work left all that is reached is marked. In each turn either what is gone over grows, or it stays
-- and the work gets less. Assumes nothing.
use Prim.Native.Nat.{◌+◌, ◌*◌, ◌^◌}
use Rattle.reach.proofs.Laws.Space.{space}
use Rattle.reach.proofs.Laws.Working.{Working}
use Rattle.reach.proofs.reach.Given as goal

abbrev pub invariant-loop-work : goal.invariant-loop-work
invariant-loop-work l = Working l.book.rules l.table l.book.clauses l.reached l.gone l.work

abbrev pub decreases-loop-work : goal.decreases-loop-work
decreases-loop-work l = space l.gone * 2 ^ 64 + l.work
