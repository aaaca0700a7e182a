-- `sheet::put_rounds` meets its contract. The letter is written, then the field, then the newline. Assumes nothing.
use Rattle.printing.specs.Sheet.{field}
use Rattle.sheet.proofs.Laws.Lines.{room_fields, room_newline, wrote_line}
use Rattle.sheet.proofs.put_rounds.Goals as goal

pub put_field-q-requires : goal.put_field-q-requires
put_field-q-requires c =
    room_fields (field c.args.rounds) c.put_byte-p.ensures c.requires

pub put_byte-requires : goal.put_byte-requires
put_byte-requires c =
    room_newline _ c.put_byte-p.ensures c.requires c.put_field-q.ensures

pub returns : goal.returns
returns c =
    wrote_line c.put_byte-p.ensures c.put_field-q.ensures c.put_byte.ensures
