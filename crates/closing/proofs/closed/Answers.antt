-- `closing::closed` meets its contract. A book that is refused once it is read, with no room for it, is refused with room as well. Assumes nothing.
use Rattle.std.proofs.lemmas.Result.{err_from_is_err_and}
use Rattle.closing.specs.Close as close
use Rattle.reading.proofs.Laws.Judged.{read_refused}
use Rattle.closing.proofs.Laws.Refused.{lacking_some}
use Rattle.closing.proofs.closed.Goals as goal

pub returns-in_err-b : goal.returns-in_err-b
returns-in_err-b c =
    let p = err_from_is_err_and c.from_residual.result c.from_residual.ensures.1 in
    rw (p.1, p.2) (read_refused (close.closed c.args.set) _ c.args.out.now c.in_err-b.field-0.0 c.in_err-b.ensures)

pub returns-in_err-lacking : goal.returns-in_err-lacking
returns-in_err-lacking c =
    let p = err_from_is_err_and c.from_residual-in_err-lacking.result c.from_residual-in_err-lacking.ensures.1 in
    let b = c.in_ok-b.ensures in
    rw (p.1, p.2) (lacking_some c.args.set _ _ c.args.out.now b.0 b.1 b.2 c.in_err-lacking.ensures)
