-- `page::answer_page` meets its contract. A fault is the book's; else the book is well formed and its final table is settled, and what is given is its page.
-- Assumes nothing.
use Rattle.std.proofs.lemmas.Result.{err_from_is_err_and}
use Rattle.ordering.proofs.Laws.Held.{admitted_full}
use Rattle.needs.proofs.Laws.Settling.{read_held}
use Rattle.page.proofs.Laws.Given.{page_refused, lent_read, page_given}
use Rattle.page.proofs.answer_page.Goals as goal

pub returns-in_err-read_book : goal.returns-in_err-read_book
returns-in_err-read_book c =
    let p = err_from_is_err_and c.from_residual.result c.from_residual.ensures.1 in
    rw (p.1, p.2) (page_refused _ _ c.args.out.now c.args.tally.now c.in_err-read_book.field-0.0 c.in_err-read_book.ensures.read)

pub settle-requires : goal.settle-requires
settle-requires c =
    let n = c.new-needs.ensures in
    ((_, read_held c.in_ok-read_book.ensures.read), n.own, n.masks, n.admits)

pub of-table-requires : goal.of-table-requires
of-table-requires c = admitted_full _ _ (c.settle.ensures _ (read_held c.in_ok-read_book.ensures.read)).admitted

pub give-requires : goal.give-requires
give-requires c = (_, lent_read c.in_ok-read_book.ensures.read c.settle.ensures c.of-table.ensures)

pub returns : goal.returns
returns c =
    let b = c.in_ok-read_book.ensures.read in
    page_given b _ (c.give.ensures _ (lent_read b c.settle.ensures c.of-table.ensures))
