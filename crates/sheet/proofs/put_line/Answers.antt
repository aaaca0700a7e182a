-- `sheet::put_line` meets its contract. The letter is written, then the fields that lead, those listed, those that trail, and the newline. Assumes nothing.
use native.Mathlib.Omega.{arith}
use Rattle.sheet.proofs.Laws.Lines.{room_newline, wrote_line, listed_most, fields_in, room_lead, room_listed, room_trail, wrote_fields}
use Rattle.sheet.proofs.put_line.Goals as goal

pub overflow_add-end : goal.overflow_add-end
overflow_add-end c = let f = c.args.form.now in let m = listed_most f.lead f.trail c.args.image.now c.requires.0 in omega (arith, c.listed.ensures)

pub put_fields-q-requires : goal.put_fields-q-requires
put_fields-q-requires c = let f = c.args.form.now in room_lead f.lead f.trail c.args.image.now f.none.now c.put_byte-p.ensures c.requires.1

pub put_listing-r-requires : goal.put_listing-r-requires
put_listing-r-requires c =
    let f = c.args.form.now in
    room_listed f.lead f.trail c.args.image.now f.none.now c.put_byte-p.ensures c.requires.1 c.listed.ensures c.put_fields-q.ensures

pub put_fields-s-requires : goal.put_fields-s-requires
put_fields-s-requires c =
    let f = c.args.form.now in
    room_trail f.lead f.trail c.args.image.now f.none.now c.put_byte-p.ensures c.requires.1 c.listed.ensures c.put_fields-q.ensures c.put_listing-r.ensures

pub put_byte-requires : goal.put_byte-requires
put_byte-requires c =
    let f = c.args.form.now in
    let s = c.args.image.now in
    room_newline (fields_in f.lead f.trail s f.none.now) c.put_byte-p.ensures c.requires.1
    (wrote_fields f.lead f.trail s f.none.now c.listed.ensures c.put_fields-q.ensures c.put_listing-r.ensures c.put_fields-s.ensures)

pub returns : goal.returns
returns c =
    let f = c.args.form.now in
    wrote_line c.put_byte-p.ensures
    (wrote_fields f.lead f.trail c.args.image.now f.none.now c.listed.ensures c.put_fields-q.ensures c.put_listing-r.ensures c.put_fields-s.ensures) c.put_byte.ensures
