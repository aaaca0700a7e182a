-- `page::give` meets its contract. Whatever book is lent, what was answered against the table that is lent is the page against its final one. Assumes
-- nothing.
use mathlib.Core.Path.{sym}
use native.Mathlib.Omega.{arith}
use Rattle.std.proofs.lemmas.Result.{err_from_is_err_and}
use Rattle.page.proofs.Laws.Given.{lent_size, give_bad, give_front, give_short, give_done}
use Rattle.page.proofs.give.Goals as goal

pub slice_bounds-ar-end : goal.slice_bounds-ar-end
slice_bounds-ar-end c = sym (lent_size _ _ _ c.requires.1)

pub returns-in-Err : goal.returns-in-Err
returns-in-Err c = rw c.within.ensures (give_bad _ _ _ c.in-Err.ensures c.args.out.now c.args.tally.now)

pub returns-in_err-r : goal.returns-in_err-r
returns-in_err-r c =
    let p = err_from_is_err_and c.from_residual.result c.from_residual.ensures.1 in
    let h = c.in_err-r.ensures.short in
    rw (p.1, p.2, h.0) (give_short c.args.book.now _ _ c.in-Ok.ensures c.args.out.now c.args.tally.now h.1)

pub slice_bounds-image-end : goal.slice_bounds-image-end
slice_bounds-image-end c = (give_front c.args.book.now _ _ c.in-Ok.ensures).fits

pub slice_bounds-put_bytes-end : goal.slice_bounds-put_bytes-end
slice_bounds-put_bytes-end c = (give_front c.args.book.now _ _ c.in-Ok.ensures).size

pub put_bytes-requires : goal.put_bytes-requires
put_bytes-requires c =
    let size = (give_front c.args.book.now _ _ c.in-Ok.ensures).size in
    let room = c.in_ok-r.ensures.done.1 in
    omega arith

pub returns : goal.returns
returns c =
    let h = c.in_ok-r.ensures.done in
    give_done _ _ _ c.in-Ok.ensures c.args.out.now c.args.tally.now h.1 h.0 c.put_bytes.ensures.is
