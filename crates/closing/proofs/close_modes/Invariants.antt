-- `closing::close_modes` meets its contract. The loop goes over the predicates chosen; its invariant: those passed have the table's constraint as
-- `MO`, and the others are as they were. Assumes nothing.
use Rattle.masks.specs.Set.{members}
use Rattle.closing.proofs.Laws.Moding.{Moding}
use Rattle.closing.proofs.close_modes.Given as goal

abbrev pub invariant-loop-p : goal.invariant-loop-p
invariant-loop-p l = Moding l.set l.table l.initial.modes l.modes (members l.p-iterator.left)
