-- `ordering::head_bound` meets its contract. The loop's invariant: what the first i positions bind is bound. Assumes nothing.
use Rattle.book.specs.Held.{head_in}
use Rattle.ordering.specs.Held.{bound_of}
use Rattle.ordering.proofs.Laws.Steps.{Heading}
use Rattle.ordering.proofs.head_bound.Given as goal

abbrev pub invariant-loop-i : goal.invariant-loop-i
invariant-loop-i l = Heading l.pattern (head_in l.head.word).args l.i (bound_of l.b)
