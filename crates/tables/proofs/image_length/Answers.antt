-- `tables::image_length` meets its contract. The loop's invariant: the total is the length of the rows of the predicates passed. Assumes nothing.
use mathlib.Core.Path.{◌∙◌}
use mathlib.Core.List.{[]}
use native.Mathlib.Omega.{arith}
use Rattle.book.specs.Table.{table_in}
use Rattle.writing.proofs.Laws.Chunks.{measuring_start, measuring_end}
use Rattle.tables.proofs.Laws.Image.{rows_size}
use Rattle.tables.proofs.Laws.Held.{rows_chunks}
use Rattle.tables.proofs.image_length.Goals as goal

pub loop-masks-init : goal.loop-masks-init
loop-masks-init c = measuring_start (rows_chunks [] c.args.table.now.masks c.args.book.now.preds)

pub returns : goal.returns
returns c arities =
    let s = c.args in
    measuring_end c.loop-masks.invariant (omega arith) ∙ rows_size [] arities (table_in s.table.now.masks s.book.now.preds) s.book.now.preds
