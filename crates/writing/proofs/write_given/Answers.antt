-- `writing::write_given` meets its contract. The book's length decides between the two answers of an outcome that is done. Assumes nothing.
use mathlib.Core.Path.{ap}
use native.Mathlib.Omega.{arith}
use Rattle.std.proofs.lemmas.Result.{err_from_is_err_and}
use Rattle.masks.specs.declared.reply.Reply.{Reply}
use Rattle.masks.proofs.Laws.Outcome.{answers_short, answers_done}
use Rattle.writing.proofs.write_given.Goals as goal

pub put_book-requires : goal.put_book-requires
put_book-requires c = (c.requires, omega (arith, c.book_length.ensures, ap (λ (r : Reply). r.value) c.in_ok-r.ensures.done.0, c.in_ok-r.ensures.done.1))

pub returns-in_err-r : goal.returns-in_err-r
returns-in_err-r c =
    let p = err_from_is_err_and c.from_residual.result c.from_residual.ensures.1 in
    let h = c.in_err-r.ensures.short in
    rw (p.1, p.2, h.0) (answers_short c.book_length.ensures h.1)

pub returns : goal.returns
returns c =
    let h = c.in_ok-r.ensures.done in
    answers_done c.book_length.ensures h.1 h.0 c.put_book.ensures.is
