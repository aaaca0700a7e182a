-- `writing::length::book_length` meets its contract. A book is as long as its parts together, and each part is measured. Assumes nothing.
use mathlib.Core.Path.{ap}
use native.Mathlib.Omega.{arith}
use lib.ListN.{length, length-take}
use Rattle.book.specs.Book.{Clause}
use Rattle.book.specs.Encode.{run, enc_subgoal}
use Rattle.book.specs.Held.{book_in}
use Rattle.writing.proofs.Laws.Book.{book_length_lem}
use Rattle.writing.proofs.length.book_length.Goals as goal

pub returns : goal.returns
unfolding book_in
returns c =
    let b = c.args.book.now in
    let e = book_length_lem b.preds b.arities b.modes b.clauses b.rules in
    let p = length-take b.preds b.arities in
    let q = ap (λ (x : Clause). length (run enc_subgoal x.body)) c.query.ensures in
    let m = c.modes_length.ensures.value in
    let k = c.clauses_length.ensures.value in
    let b = c.body_length.ensures.value in
    omega arith
