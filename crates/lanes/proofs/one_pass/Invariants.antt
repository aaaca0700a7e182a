-- `lanes::one_pass` meets its contract. The loop's invariant: the first j subgoals are visited. Assumes nothing.
use Rattle.book.specs.Limits.{max_predicates}
use Rattle.book.specs.Table.{table_in}
use Rattle.lanes.proofs.Laws.Passing.{Visiting}
use Rattle.lanes.proofs.one_pass.Given as goal

abbrev pub invariant-loop-j : goal.invariant-loop-j
invariant-loop-j l =
    Visiting (table_in l.table max_predicates) l.clause.body l.initial.vars l.j l.vars l.placed l.good l.moved
