-- `book::mode::with_mode` meets its contract. The loop's invariant: of the predicates below p the set has those with `MO`. Assumes nothing.
use Rattle.book.proofs.Laws.Held.{Having}
use Rattle.book.proofs.mode.with_mode.Given as goal

abbrev pub invariant-loop-p : goal.invariant-loop-p
invariant-loop-p l = Having l.modes l.p l.set
