-- `writing::put_predicates` meets its contract. The loop's invariant: the predicates passed are written. Assumes nothing.
use native.Mathlib.Omega.{arith}
use lib.ListN.{take}
use Rattle.writing.proofs.Laws.Wrote.{wrote_append, room_second}
use Rattle.writing.proofs.Laws.Chunks.{writing_start, writing_room, writing_next}
use Rattle.writing.proofs.Laws.Runs.{byte_at, predicates_chunks}
use Rattle.writing.proofs.put_predicates.Goals as goal

pub loop-arity-init : goal.loop-arity-init
loop-arity-init c =
    let s = c.args in
    writing_start (predicates_chunks s.arities.now s.preds (omega arith) (omega arith)) c.requires

pub put_mark-q-requires : goal.put_mark-q-requires
put_mark-q-requires c = let r = writing_room c.loop-arity.invariant (omega arith) in omega arith

pub put_byte-p-requires : goal.put_byte-p-requires
put_byte-p-requires c =
    let l = c.loop-arity in
    room_second (byte_at (take c.min-n.result c.args.arities.now) l.arity-index) c.put_mark-q.ensures (writing_room l.invariant (omega arith))

pub loop-arity-preserved : goal.loop-arity-preserved
loop-arity-preserved c =
    writing_next c.loop-arity.invariant (omega arith) (wrote_append c.put_mark-q.ensures c.put_byte-p.ensures)
