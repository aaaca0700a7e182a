-- `plan::planned` meets its contract. A fault is the book's; else the book is well formed and its final table is settled, and what is given is its plan. Assumes
-- nothing.
use Rattle.std.proofs.lemmas.Result.{err_from_is_err_and}
use Rattle.choices.specs.Plan as plan
use Rattle.reading.proofs.Laws.Judged.{read_refused, read_made}
use Rattle.needs.proofs.Laws.Settling.{read_held}
use Rattle.plan.proofs.Laws.Planned.{lent_read}
use Rattle.plan.proofs.planned.Goals as goal

pub returns-in_err-read_book : goal.returns-in_err-read_book
returns-in_err-read_book c =
    let p = err_from_is_err_and c.from_residual.result c.from_residual.ensures.1 in
    rw (p.1, p.2) (read_refused plan.planned _ c.args.out.now c.in_err-read_book.field-0.0 c.in_err-read_book.ensures.read)

pub settle-requires : goal.settle-requires
settle-requires c = let n = c.new-needs.ensures in ((_, read_held c.in_ok-read_book.ensures.read), n.own, n.masks, n.admits)

pub give-requires : goal.give-requires
give-requires c = (_, lent_read c.in_ok-read_book.ensures.read c.settle.ensures)

pub returns : goal.returns
returns c =
    let b = c.in_ok-read_book.ensures.read in
    rw (← read_made b plan.planned) (c.give.ensures _ (lent_read b c.settle.ensures))
