-- `tables::image_length` meets its contract. The loop's invariant: the total is the length of the rows of the predicates passed. Assumes nothing.
use mathlib.Core.List.{[]}
use Rattle.writing.proofs.Laws.Chunks.{Measuring}
use Rattle.tables.proofs.Laws.Held.{rows_to, row_held}
use Rattle.tables.proofs.image_length.Given as goal

abbrev pub invariant-loop-masks : goal.invariant-loop-masks
invariant-loop-masks l = Measuring l.book.preds (rows_to [] l.table.masks l.book.preds) (row_held [] l.table.masks l.book.preds) (rows_to [] l.table.masks l.book.preds l.book.preds) 69 l.masks-index l.total
