-- `sheet::line::put_field` meets its contract. What stands before the number is written, then the digits, which are the fewest that hold it. Assumes nothing.
use native.Mathlib.Omega.{arith}
use lib.ListN.{length-append}
use Rattle.printing.specs.Sheet.{decimal, after}
use Rattle.writing.proofs.Laws.Wrote.{wrote_append, wrote_as}
use Rattle.sheet.proofs.Laws.Decimal.{spelled, spelled_room}
use Rattle.sheet.proofs.line.put_field.Goals as goal

pub put_bytes-p-requires : goal.put_bytes-p-requires
unfolding after
put_bytes-p-requires c = let s = c.args in let e = length-append s.part.now (decimal s.n) in omega arith

pub put_bytes-requires : goal.put_bytes-requires
put_bytes-requires c =
    let d = c.decimal-k in
    let first = c.put_bytes-p.ensures in
    spelled_room c.args.part.now c.args.n d.result d.ensures.len d.ensures.digits first c.requires

pub returns : goal.returns
returns c =
    let d = c.decimal-k in
    let first = c.put_bytes-p.ensures in
    wrote_as (spelled c.args.part.now c.args.n d.result d.ensures.len d.ensures.digits) (wrote_append first c.put_bytes.ensures)
