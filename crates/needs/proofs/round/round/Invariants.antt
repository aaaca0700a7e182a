-- `needs::round::round` meets its contract. The loop goes over the predicates due; its invariant: those passed have their good patterns, and those
-- marked have others than before. Assumes nothing.
use Rattle.masks.specs.Set.{members}
use Rattle.masks.proofs.Laws.Loops.{Over}
use Rattle.needs.proofs.Laws.Rounding.{Rounding}
use Rattle.needs.proofs.round.round.Given as goal

abbrev pub invariant-loop-p : goal.invariant-loop-p
invariant-loop-p l = Over (Rounding l.book.rules l.own l.table l.old l.due l.new l.changed) l.due (members l.p-iterator.left)
