-- `tables::put_image` meets its contract. The loop's invariant: the rows of the first p predicates are written. Assumes nothing.
use Rattle.writing.proofs.Laws.Chunks.{Writing}
use Rattle.tables.proofs.Laws.Held.{rows_to, row_held}
use Rattle.tables.proofs.put_image.Given as goal

abbrev pub invariant-loop-p : goal.invariant-loop-p
invariant-loop-p l =
    Writing l.book.preds (rows_to l.book.arities l.table.masks l.book.preds) (row_held l.book.arities l.table.masks l.book.preds) (rows_to l.book.arities l.table.masks l.book.preds l.book.preds) l.initial.out 0 l.p l.out l.at
