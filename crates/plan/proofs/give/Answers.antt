-- `plan::give` meets its contract. Whatever book is lent, an order of its query against the table as it is held is one against its final table; where
-- there is one, what is measured and written is the image of its plan. Assumes nothing.
use mathlib.Core.Path.{◌≡◌, refl, ap, ◌∙◌}
use native.Mathlib.Omega.{arith}
use lib.ListN.{length, take, length-take}
use borrow.Author.Rules.{rules}
use Rattle.std.proofs.lemmas.Result.{err_from_is_err_and}
use Rattle.masks.specs.declared.reply.Reply.{Reply}
use Rattle.masks.proofs.Laws.Outcome.{answers_refused, answers_short, answers_done}
use Rattle.book.specs.Limits.{max_subgoals}
use Rattle.book.proofs.Laws.Sets.{cleared_zeros}
use Rattle.ordering.specs.Held.{places_of}
use Rattle.ordering.proofs.Laws.Bound.{bound_of_zero}
use Rattle.plan.proofs.Laws.Planned.{few_preds, lent_known, lent_full, lent_query, lent_callable, given_none, given_plan, given_size}
use Rattle.plan.proofs.give.Goals as goal

pub of-table-requires : goal.of-table-requires
of-table-requires c = lent_full c.requires.1

pub first_order-query-requires : goal.first_order-query-requires
first_order-query-requires c = rw c.query.ensures (lent_query c.requires.1)

pub returns-in_default : goal.returns-in_default
returns-in_default c B l =
    let none· = rw c.in_default.is at c.first_order-query.ensures.order in
    rw (given_none l (rw (c.of-table.ensures, c.query.ensures, bound_of_zero) at none·)) (answers_refused 7 0 c.args.out.now refl)

pub reach-requires : goal.reach-requires
reach-requires c =
    let l = c.requires.1 in
    let first = rw c.in-Some.is at c.first_order-query.ensures.order in
    let beside = rw c.in-Some.is at c.first_order-query.ensures.patterns in
    record {
      clauses_le_max_clauses = (l.few, lent_known l, lent_query l, l.owns);
      found = (rw c.in-Some.is (record { first = rw (c.query.ensures, bound_of_zero) at first; beside = rw (c.query.ensures, bound_of_zero) at beside }), cleared_zeros);
    }

pub put_plan-requires : goal.put_plan-requires
put_plan-requires c =
    let l = c.requires.1 in
    let o = c.in-Some.order in
    let T = c.of-table.ensures in
    let order = rw (T, c.query.ensures, bound_of_zero) at (rw c.in-Some.is at c.first_order-query.ensures.order) in
    let size = c.plan_length.ensures ∙ given_size l (places_of o) order _ (rw T at c.reach.ensures) in
    let h : length o.places ≡ max_subgoals = search rules in
    let n = length-take o.n o.places in
    let e : length c.places.result.now ≡ length (take o.n o.places) = ap length c.places.ensures in
    record { few = (omega arith, few_preds l, lent_callable l); room = rw (T, c.places.ensures) (omega (arith, ap (λ (r : Reply). r.value) c.in_ok-r.ensures.done.0, c.in_ok-r.ensures.done.1)) }

pub returns-in_err-r : goal.returns-in_err-r
returns-in_err-r c B l =
    let p = err_from_is_err_and c.from_residual.result c.from_residual.ensures.1 in
    let h = c.in_err-r.ensures.short in
    let T = c.of-table.ensures in
    let order = rw (T, c.query.ensures, bound_of_zero) at (rw c.in-Some.is at c.first_order-query.ensures.order) in
    let reached = rw T at c.reach.ensures in
    rw (p.1, p.2, h.0, given_plan l (places_of c.in-Some.order) order _ reached)
    (answers_short (c.plan_length.ensures ∙ given_size l (places_of c.in-Some.order) order _ reached) h.1)

pub returns : goal.returns
returns c B l =
    let h = c.in_ok-r.ensures.done in
    let T = c.of-table.ensures in
    let order = rw (T, c.query.ensures, bound_of_zero) at (rw c.in-Some.is at c.first_order-query.ensures.order) in
    let reached = rw T at c.reach.ensures in
    rw (given_plan l (places_of c.in-Some.order) order _ reached)
    (answers_done (c.plan_length.ensures ∙ given_size l (places_of c.in-Some.order) order _ reached) h.1 h.0 (rw (T, c.places.ensures) at c.put_plan.ensures.is))
