-- `plan::image::put_plan` meets its contract. The query's part is written; the loop's invariant: behind it are the rows of the first p predicates.
-- Assumes nothing.
use native.Mathlib.Omega.{arith}
use Rattle.masks.specs.Lists.{joined}
use Rattle.choices.specs.Plan.{enc_query}
use Rattle.plan.specs.Lent.{plan_bytes}
use Rattle.writing.proofs.Laws.Chunks.{joined_chunks, writing_start, writing_room, writing_next, writing_end}
use Rattle.writing.proofs.Laws.Wrote.{wrote_append, room_first, room_second}
use Rattle.plan.proofs.image.put_plan.Invariants.{rows}
use Rattle.plan.proofs.image.put_plan.Goals as goal

pub put_query-at-requires : goal.put_query-at-requires
unfolding plan_bytes
put_query-at-requires c =
    let s = c.args in
    record { few = c.requires.few.0; room = room_first s.out.now 0 (enc_query s.query.now) (joined (rows s.book.now.rules s.table.now s.own.now s.reached.now) s.book.now.preds) c.requires.room }

pub loop-p-init : goal.loop-p-init
unfolding plan_bytes
loop-p-init c =
    let s = c.args in
    let chunk = rows s.book.now.rules s.table.now s.own.now s.reached.now in
    writing_start (joined_chunks chunk s.book.now.preds) (room_second (joined chunk s.book.now.preds) c.put_query-at.ensures c.requires.room)

pub put_patterns-at-requires : goal.put_patterns-at-requires
put_patterns-at-requires c = (c.requires.few.2 _ (omega arith), writing_room c.loop-p.invariant (omega arith))

pub loop-p-preserved : goal.loop-p-preserved
loop-p-preserved c = writing_next c.loop-p.invariant (omega arith) c.put_patterns-at.ensures

pub returns : goal.returns
unfolding plan_bytes
returns c = wrote_append c.put_query-at.ensures (writing_end c.loop-p.invariant (omega arith))
