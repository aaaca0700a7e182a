-- `records::field::read_bytes` meets its contract. Each turn keeps what is still to be read equal to the whole. Assumes nothing.
use Rattle.records.proofs.Laws.Stores.{Laying}
use Rattle.records.proofs.field.read_bytes.Given as goal

abbrev pub invariant-loop-i : goal.invariant-loop-i
invariant-loop-i l = Laying l.range l.k l.s l.i l.left l.start l.initial.out l.out
