-- `records::field::read_args` meets its contract. The word has the arguments read so far. Assumes nothing.
use Rattle.records.proofs.Laws.Calls.{Calling}
use Rattle.records.proofs.field.read_args.Given as goal

abbrev pub invariant-loop-i : goal.invariant-loop-i
invariant-loop-i l = Calling l.range l.pred l.count l.n l.s l.i l.left l.shift l.call
