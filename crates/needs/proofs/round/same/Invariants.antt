-- `needs::round::same` meets its contract. The loop's invariant: nothing differs exactly where the first p words are the same. Assumes nothing.
use Rattle.needs.proofs.Laws.Rounding.{Comparing}
use Rattle.needs.proofs.round.same.Given as goal

abbrev pub invariant-loop-p : goal.invariant-loop-p
invariant-loop-p l = Comparing l.old l.new l.differ l.p
