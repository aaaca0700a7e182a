-- `book::clause::Clause::subgoals` meets its contract. The first word of a clause says how many, and there is room for eight. Assumes nothing.
use mathlib.Core.Path.{ap}
use native.Mathlib.Omega.{arith}
use lib.ListN.{length}
use Rattle.book.specs.Book as book
use Rattle.book.proofs.Laws.Held.{clause_at_count}
use Rattle.book.proofs.clause.Clause.subgoals.Goals as goal

pub returns-clause-value : goal.returns-clause-value
returns-clause-value c =
    let n = clause_at_count c.self.inside.rules.now c.self.inside.k in
    let e = ap (λ (k : book.Clause). length k.body) c.self.view_is in
    omega (arith, n, e, c.min.ensures)
