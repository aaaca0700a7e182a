-- `page::answer_query` meets its contract: the order found is the query's first good one, and the answer is made of it. Assumes nothing.
use mathlib.Core.Path.{◌∙◌}
use native.Mathlib.Omega.{arith}
use Rattle.ordering.proofs.Laws.Bound.{bound_of_zero}
use Rattle.writing.proofs.Laws.Wrote.{wrote_as}
use Rattle.page.proofs.Laws.Answer.{order_answer, order_accepts, order_room}
use Rattle.page.proofs.answer_query.Goals as goal

pub put_answer-next-requires : goal.put_answer-next-requires
put_answer-next-requires c =
    let room = order_room _ _ _ (rw bound_of_zero at c.first_order-order.ensures.order) c.requires.1 in
    omega arith

pub returns-clause-wrote : goal.returns-clause-wrote
returns-clause-wrote c = wrote_as (order_answer _ _ _ (rw bound_of_zero at c.first_order-order.ensures.order)) c.put_answer-next.ensures

pub returns-clause-accepted_value : goal.returns-clause-accepted_value
returns-clause-accepted_value c =
    let first = rw bound_of_zero at c.first_order-order.ensures.order in
    let room = order_room _ _ _ first c.requires.1 in
    let ends = c.put_answer-next.ensures.ends in
    (c.is_some.ensures ∙ order_accepts _ _ _ first, omega arith)
