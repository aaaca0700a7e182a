-- `writing::length::clauses_length` meets its contract. The loop's invariant: the total is the length of the first k clauses. Assumes nothing.
use mathlib.Core.Path.{ap}
use Prim.Native.Nat.{min}
use native.Mathlib.Omega.{arith}
use lib.ListN.{length}
use Rattle.book.specs.Limits.{max_clauses}
use Rattle.book.specs.Book.{Head, Clause}
use Rattle.book.specs.Encode.{enc_clause}
use Rattle.book.specs.Held.{book_in}
use Rattle.writing.proofs.Laws.Chunks.{measuring_start, measuring_next, measuring_end}
use Rattle.writing.proofs.Laws.Runs.{clauses_chunks, clause_length}
use Rattle.writing.proofs.length.clauses_length.Goals as goal

pub loop-k-init : goal.loop-k-init
loop-k-init c = measuring_start (clauses_chunks c.args.book.now.rules (min c.args.book.now.clauses max_clauses) (omega arith))

pub overflow_add-total : goal.overflow_add-total
overflow_add-total c = omega arith

pub overflow_add-total-in-loop-k : goal.overflow_add-total-in-loop-k
overflow_add-total-in-loop-k c = omega arith

pub overflow_add-total-in-loop-k-2 : goal.overflow_add-total-in-loop-k-2
overflow_add-total-in-loop-k-2 c = omega arith

pub loop-k-preserved : goal.loop-k-preserved
loop-k-preserved c =
    let l = clause_length c.clause-clause.result in
    let e = ap (λ (x : Head). length x.args) c.head.ensures in
    let k = ap (λ (x : Clause). length (enc_clause x)) c.clause-clause.ensures in
    let f = c.arguments.ensures.value in
    let g = c.body_length.ensures.value in
    measuring_next c.loop-k.invariant (omega arith) (omega arith) (omega arith)

pub returns : goal.returns
unfolding book_in
returns c = record { value = measuring_end c.loop-k.invariant (omega arith); upper_bound = omega arith }
