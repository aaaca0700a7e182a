-- `tables::first_table` meets its contract. The loop's invariant: the first p constraints are those of table 0, with the patterns that they admit. Assumes
-- nothing.
use Rattle.tables.proofs.Laws.Held.{Filling}
use Rattle.tables.proofs.first_table.Given as goal

abbrev pub invariant-loop-p : goal.invariant-loop-p
invariant-loop-p l = Filling l.book.modes l.p l.table.masks l.table.admits
