-- `writing::put_clause` meets its contract. The mark is written, then the head, then the body. Assumes nothing.
use mathlib.Core.Path.{ap}
use Rattle.book.specs.Encode.{enc_head}
use Rattle.writing.proofs.Laws.Wrote.{wrote_append, wrote_as}
use Rattle.writing.proofs.put_clause.Goals as goal

pub returns : goal.returns
returns c =
    let mark = c.put_mark-p.ensures in
    let head = wrote_as (ap enc_head c.head.ensures) c.put_call-q.ensures in
    wrote_append mark (wrote_append head c.put_body.ensures)
