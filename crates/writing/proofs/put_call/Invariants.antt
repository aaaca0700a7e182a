-- `writing::put_call` meets its contract. The loop's invariant: behind the predicate the first i arguments are written. Assumes nothing.
use Rattle.book.specs.Held.{call_in}
use Rattle.writing.proofs.Laws.Chunks.{Writing}
use Rattle.writing.proofs.Laws.Runs.{bytes_to, byte_at}
use Rattle.writing.proofs.put_call.Given as goal

abbrev pub invariant-loop-i : goal.invariant-loop-i
invariant-loop-i l = Writing l.i-end (bytes_to (call_in l.call.word).args) (byte_at (call_in l.call.word).args) (call_in l.call.word).args l.initial.out l.initial.p l.i l.out l.p
