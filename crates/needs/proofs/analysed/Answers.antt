-- `needs::analysed` meets its contract. A fault is the book's; else the book is well formed, and what is written where there is room is the image of
-- its final table, with its rounds. Assumes nothing.
use mathlib.Core.Path.{ap}
use native.Mathlib.Omega.{arith}
use Rattle.std.proofs.lemmas.Result.{err_from_is_err_and}
use Rattle.tables.specs.Image as image
use Rattle.masks.specs.declared.reply.Reply.{Reply}
use Rattle.masks.proofs.Laws.Outcome.{answers_short, answers_done}
use Rattle.reading.proofs.Laws.Judged.{read_refused}
use Rattle.needs.proofs.Laws.Settling.{read_held}
use Rattle.needs.proofs.Laws.Analysed.{read_low, analysed_book}
use Rattle.needs.proofs.analysed.Goals as goal

pub returns-in_err-read_book : goal.returns-in_err-read_book
returns-in_err-read_book c =
    let p = err_from_is_err_and c.from_residual.result c.from_residual.ensures.1 in
    rw (p.1, p.2) (read_refused image.analysed _ c.args.out.now c.in_err-read_book.field-0.0 c.in_err-read_book.ensures.read)

pub settle-rounds-requires : goal.settle-rounds-requires
settle-rounds-requires c =
    let n = c.new-needs.ensures in
    ((_, read_held c.in_ok-read_book.ensures.read), n.own, n.masks, n.admits)

pub image_length-requires : goal.image_length-requires
image_length-requires c = c.in_ok-read_book.ensures.read.listed.few

pub put_image-requires : goal.put_image-requires
put_image-requires c =
    let b = c.in_ok-read_book.ensures.read in
    let d = c.settle-rounds.ensures _ (read_held b) in
    (b.listed.few, read_low b, d.admitted, omega (arith, c.image_length.ensures c.read_book.new.book.arities, ap (λ (r : Reply). r.value) c.in_ok-r.ensures.done.0, c.in_ok-r.ensures.done.1))

pub returns-in_err-r : goal.returns-in_err-r
returns-in_err-r c =
    let p = err_from_is_err_and c.from_residual-in_err-r.result c.from_residual-in_err-r.ensures.1 in
    let h = c.in_err-r.ensures.short in
    rw (p.1, p.2, h.0, ← analysed_book c.in_ok-read_book.ensures.read c.settle-rounds.ensures)
    (answers_short (c.image_length.ensures c.read_book.new.book.arities) h.1)

pub returns : goal.returns
returns c =
    let h = c.in_ok-r.ensures.done in
    rw (← analysed_book c.in_ok-read_book.ensures.read c.settle-rounds.ensures)
    (answers_done (c.image_length.ensures c.read_book.new.book.arities) h.1 h.0 c.put_image.ensures.is)
