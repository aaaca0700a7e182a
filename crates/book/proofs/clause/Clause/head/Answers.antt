-- `book::clause::Clause::head` meets its contract. It is the clause's second word. Assumes nothing.
use mathlib.Core.Path.{ap}
use Rattle.book.specs.Book as book
use Rattle.book.specs.Held.{clause_at}
use Rattle.book.proofs.clause.Clause.head.Goals as goal

pub returns : goal.returns
unfolding clause_at
returns c = ap (λ (k : book.Clause). k.head) c.self.view_is
