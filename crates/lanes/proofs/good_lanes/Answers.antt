-- `lanes::good_lanes` meets its contract: in each lane, the body has a good order from what the head binds, and the head is bound when it has run. Assumes
-- nothing.
use Rattle.book.specs.Held.{head_in}
use Rattle.book.specs.Limits.{max_predicates}
use Rattle.book.specs.Held.{head_in}
use Rattle.book.specs.Table.{table_in}
use Rattle.lanes.proofs.Laws.Passing.{clause_good}
use Rattle.lanes.proofs.good_lanes.Goals as goal

pub returns : goal.returns
returns c =
    let args = c.args in
    let head = c.head-head in
    let vars = c.head_lanes-vars in
    let good = c.body_lanes-good in
    let filled = c.filled_lanes-filled in
    clause_good (table_in args.table.now max_predicates) args.clause.now (head_in head.result.word) vars.result _ good.result filled.result
    head.ensures vars.ensures good.ensures.each_lane good.ensures.each_lane_2 filled.ensures
