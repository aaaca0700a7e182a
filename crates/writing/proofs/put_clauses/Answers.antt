-- `writing::put_clauses` meets its contract. The loop's invariant: the first k clauses are written. Assumes nothing.
use Prim.Native.Nat.{min}
use native.Mathlib.Omega.{arith}
use mathlib.Core.Path.{sym}
use Rattle.book.specs.Held.{book_in}
use Rattle.book.specs.Limits.{max_clauses}
use Rattle.writing.proofs.Laws.Chunks.{writing_start, writing_length, writing_room, writing_next, writing_end}
use Rattle.writing.proofs.Laws.Runs.{clauses_chunks}
use Rattle.writing.proofs.put_clauses.Goals as goal

pub loop-k-init : goal.loop-k-init
unfolding book_in
loop-k-init c = writing_start (clauses_chunks c.args.book.now.rules (min c.args.book.now.clauses max_clauses) (omega arith)) c.requires

pub put_clause-p-requires : goal.put_clause-p-requires
put_clause-p-requires c = rw c.clause.ensures (writing_room c.loop-k.invariant (omega arith))

pub loop-k-preserved : goal.loop-k-preserved
loop-k-preserved c = writing_next c.loop-k.invariant (omega arith) (rw (sym c.clause.ensures) c.put_clause-p.ensures)

pub shape_of-out : goal.shape_of-out
shape_of-out c = writing_length c.loop-k.invariant

pub returns : goal.returns
unfolding book_in
returns c = writing_end c.loop-k.invariant (omega arith)
