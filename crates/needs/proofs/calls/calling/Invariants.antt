-- `needs::calls::calling` meets its contract. The loop goes over the members of `called`; its invariant: the set has the callers of those passed.
-- Assumes nothing.
use Rattle.masks.specs.Set.{members}
use Rattle.needs.proofs.Laws.Calls.{Passing}
use Rattle.needs.proofs.calls.calling.Given as goal

abbrev pub invariant-loop-q : goal.invariant-loop-q
invariant-loop-q l = Passing l.callers l.called l.set (members l.q-iterator.left)
