-- `reach::mark_patterns` meets its contract. The loop goes over the patterns of the set; its invariant: the calls of the clauses under those passed
-- are marked. Assumes nothing.
use Rattle.masks.specs.Set.{members}
use Rattle.reach.specs.Marked.{clauses_by}
use Rattle.reach.proofs.Laws.Passing.{Passing}
use Rattle.reach.proofs.mark_patterns.Given as goal

abbrev pub invariant-loop-a : goal.invariant-loop-a
invariant-loop-a l = Passing (clauses_by l.book.rules l.table l.own) l.patterns l.initial.reached l.reached l.names (members l.a-iterator.left)
