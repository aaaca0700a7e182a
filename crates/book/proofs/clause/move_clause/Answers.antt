-- `book::clause::move_clause` meets its contract. Assumes nothing.
use native.Mathlib.Omega.{arith}
use Rattle.book.proofs.Laws.Held.{moved_clause}
use Rattle.book.proofs.clause.move_clause.Goals as goal

pub returns : goal.returns
returns c =
    let m = c.copy_within.ensures.by_index in
    moved_clause c.args.rules.now _ c.args.from c.args.to _ (omega arith) m.0 m.1 m.2
