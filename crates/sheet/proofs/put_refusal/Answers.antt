-- `sheet::put_refusal` meets its contract. The letter is written, then two fields, then the newline. Assumes nothing.
use mathlib.Core.List.{◌++◌}
use native.Mathlib.Omega.{arith}
use lib.ListN.{length-append}
use Rattle.printing.specs.Sheet.{field, refusal_line}
use Rattle.writing.proofs.Laws.Wrote.{wrote_append, room_second}
use Rattle.sheet.proofs.Laws.Lines.{room_fields, room_newline, wrote_line}
use Rattle.sheet.proofs.put_refusal.Goals as goal

pub put_byte-p-requires : goal.put_byte-p-requires
unfolding refusal_line
put_byte-p-requires c = omega arith

pub put_field-q-requires : goal.put_field-q-requires
unfolding refusal_line
put_field-q-requires c =
    let f = field c.args.number in
    let g = field c.args.value in
    let r = room_fields (f ++ g) c.put_byte-p.ensures c.requires in
    let e = length-append f g in
    omega arith

pub put_field-r-requires : goal.put_field-r-requires
unfolding refusal_line
put_field-r-requires c =
    let g = field c.args.value in
    room_second g c.put_field-q.ensures (room_fields (field c.args.number ++ g) c.put_byte-p.ensures c.requires)

pub put_byte-requires : goal.put_byte-requires
unfolding refusal_line
put_byte-requires c = room_newline _ c.put_byte-p.ensures c.requires (wrote_append c.put_field-q.ensures c.put_field-r.ensures)

pub returns : goal.returns
unfolding refusal_line
returns c = wrote_line c.put_byte-p.ensures (wrote_append c.put_field-q.ensures c.put_field-r.ensures) c.put_byte.ensures
