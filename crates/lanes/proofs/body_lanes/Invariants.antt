-- `lanes::body_lanes` meets its contract. The loop's invariant: in each lane, so many passes from the start on are done; by the theorem of the passes,
-- the last says where there is a good order. Assumes nothing.
use Rattle.book.specs.Limits.{max_predicates}
use Rattle.book.specs.Table.{table_in}
use Rattle.lanes.proofs.Laws.Passing.{Passing}
use Rattle.lanes.proofs.body_lanes.Given as goal

abbrev pub invariant-loop : goal.invariant-loop
invariant-loop l = Passing (table_in l.table max_predicates) l.clause.body l.initial.vars l.counter l.vars l.placed
