-- `writing::put::put_bytes` meets its contract. The loop's invariant: the bytes passed are written. Assumes nothing.
use native.Mathlib.Omega.{arith}
use Rattle.writing.proofs.Laws.Chunks.{writing_next}
use Rattle.writing.proofs.put.put_bytes.Goals as goal

pub loop-x-preserved : goal.loop-x-preserved
loop-x-preserved c = writing_next c.loop-x.invariant (omega arith) c.put_byte-p.ensures
