-- `sheet::line::put_fields` meets its contract. The loop's invariant: the first i numbers are written. Assumes nothing.
use native.Mathlib.Omega.{arith}
use Rattle.writing.proofs.Laws.Chunks.{writing_start, writing_room, writing_next}
use Rattle.sheet.proofs.Laws.Lines.{fields_chunks}
use Rattle.sheet.proofs.line.put_fields.Goals as goal

pub loop-x-init : goal.loop-x-init
loop-x-init c =
    writing_start (fields_chunks c.args.part.now c.args.list.now) c.requires

pub put_field-p-requires : goal.put_field-p-requires
put_field-p-requires c = rw c.from.ensures (writing_room c.loop-x.invariant (omega arith))

pub loop-x-preserved : goal.loop-x-preserved
loop-x-preserved c = writing_next c.loop-x.invariant (omega arith) (rw c.from.ensures at c.put_field-p.ensures)
