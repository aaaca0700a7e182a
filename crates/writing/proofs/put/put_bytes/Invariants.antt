-- `writing::put::put_bytes` meets its contract. The loop's invariant: the bytes passed are written. Assumes nothing.
use lib.ListN.{length}
use Rattle.writing.proofs.Laws.Chunks.{Writing}
use Rattle.writing.proofs.Laws.Runs.{bytes_to, byte_at}
use Rattle.writing.proofs.put.put_bytes.Given as goal

abbrev pub invariant-loop-x : goal.invariant-loop-x
invariant-loop-x l = Writing (length l.b) (bytes_to l.b) (byte_at l.b) l.b l.initial.out l.at l.x-index l.out l.p
