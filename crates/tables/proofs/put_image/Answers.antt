-- `tables::put_image` meets its contract. The loop's invariant: the rows of the first p predicates are written. Assumes nothing.
use mathlib.Core.Path.{sym, subst}
use native.Mathlib.Omega.{arith}
use Rattle.writing.specs.Wrote.{Room}
use Rattle.writing.proofs.Laws.Wrote.{wrote_as}
use Rattle.writing.proofs.Laws.Chunks.{writing_start, writing_room, writing_next}
use Rattle.tables.proofs.Laws.Held.{rows_chunks, row_held_lem}
use Rattle.tables.proofs.put_image.Goals as goal

pub loop-p-init : goal.loop-p-init
loop-p-init c =
    let k = c.args in
    writing_start (rows_chunks k.book.now.arities k.table.now.masks k.book.now.preds) c.requires.3

pub put_row-at-requires : goal.put_row-at-requires
put_row-at-requires c =
    let l = c.loop-p in
    subst (Room l.out l.at) (sym (row_held_lem c.args.book.now.arities c.args.table.now.masks c.args.book.now.preds c.args.table.now.admits c.requires.1 c.requires.2 c.requires.0 c.loop-p-test.true c.fitting-fit.ensures)) (writing_room l.invariant (omega arith))

pub loop-p-preserved : goal.loop-p-preserved
loop-p-preserved c =
    let l = c.loop-p in
    writing_next l.invariant (omega arith) (wrote_as (row_held_lem c.args.book.now.arities c.args.table.now.masks c.args.book.now.preds c.args.table.now.admits c.requires.1 c.requires.2 c.requires.0 c.loop-p-test.true c.fitting-fit.ensures) c.put_row-at.ensures)
