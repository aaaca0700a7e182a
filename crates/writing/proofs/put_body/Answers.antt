-- `writing::put_body` meets its contract. The loop's invariant: the first j subgoals are written. Assumes nothing.
use mathlib.Core.Path.{ap}
use native.Mathlib.Omega.{arith}
use Rattle.book.specs.Encode.{enc_subgoal}
use Rattle.writing.proofs.Laws.Wrote.{wrote_as}
use Rattle.writing.proofs.Laws.Chunks.{writing_start, writing_next}
use Rattle.writing.proofs.Laws.Runs.{subgoals_chunks}
use Rattle.writing.proofs.put_body.Goals as goal

pub loop-j-init : goal.loop-j-init
loop-j-init c =
    writing_start (subgoals_chunks c.args.clause.now.body c.subgoals-j-end.ensures.value) c.requires

pub loop-j-preserved : goal.loop-j-preserved
loop-j-preserved c =
    let one = wrote_as (ap enc_subgoal c.subgoal.ensures) c.put_subgoal-p.ensures in
    writing_next c.loop-j.invariant (omega arith) one
