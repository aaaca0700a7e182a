-- `reach::mark_calls` meets its contract. The loop's invariant: the calls at the first i places of the order are marked. Assumes nothing.
use mathlib.Core.Path.{◌≡◌, sym, ap}
use native.Mathlib.Omega.{arith}
use lib.ListN.{length, length-take}
use borrow.Author.Rules.{rules}
use Rattle.book.specs.Limits.{max_subgoals}
use Rattle.ordering.specs.Held.{places_of}
use Rattle.ordering.proofs.Laws.Patterns.{order_below, pattern_low}
use Rattle.reach.proofs.Laws.Marking.{call_low, marking_start, marking_next, marking_end}
use Rattle.reach.proofs.mark_calls.Goals as goal

pub loop-i-init : goal.loop-i-init
loop-i-init c =
    let o = c.args.order.now in
    let h : length o.places ≡ max_subgoals = search rules in
    let l = length-take o.n o.places in
    let e : length (places_of o) ≡ length c.places-n.result.now = ap length (sym c.places-n.ensures) in
    record { long = e; few = omega arith; going = marking_start c.told-reached }

pub subgoal-requires : goal.subgoal-requires
subgoal-requires c =
    let f = c.requires.1 in
    let e = c.loop-i.invariant.long in
    order_below f.0 c.args.clause.now.body f.1 c.args.order.now f.2.first c.loop-i.i (omega arith)

-- by arithmetic: the place in the order is below 64, too
pub bounds-reached-q : goal.bounds-reached-q
bounds-reached-q c =
    let i = c.loop-i.invariant in
    let e = i.long in
    let f = i.few in
    let l = call_low c.requires.1 c.requires.0 c.loop-i.i (omega arith) _ c.subgoal.ensures c.predicate-p.ensures in
    omega arith

pub with_member-requires : goal.with_member-requires
with_member-requires c =
    let f = c.requires.1 in
    let e = c.loop-i.invariant.long in
    pattern_low f.0 c.args.clause.now.body f.1 c.args.order.now f.2.first f.2.beside c.loop-i.i (omega arith) _ c.subgoal.ensures

pub bounds-reached-q-in-loop-i : goal.bounds-reached-q-in-loop-i
bounds-reached-q-in-loop-i c = call_low c.requires.1 c.requires.0 c.loop-i.i (omega (arith, c.loop-i.invariant.long)) _ c.subgoal.ensures c.predicate-p.ensures

pub with_member-names-requires : goal.with_member-names-requires
with_member-names-requires c = call_low c.requires.1 c.requires.0 c.loop-i.i (omega (arith, c.loop-i.invariant.long)) _ c.subgoal.ensures c.predicate-p.ensures

pub loop-i-preserved : goal.loop-i-preserved
loop-i-preserved c =
    let i = c.loop-i.invariant in
    let e = i.long in
    let l = call_low c.requires.1 c.requires.0 c.loop-i.i (omega arith) _ c.subgoal.ensures c.predicate-p.ensures in
    record {
      long = e;
      few = i.few;
      going = marking_next _ i.going (omega arith) c.subgoal.ensures c.predicate-p.ensures l c.with_member.ensures c.with_member-names.ensures;
    }

pub returns : goal.returns
returns c T b found = let i = c.loop-i.invariant in marking_end T c.args.clause.now.body b c.args.order.now found i.going (sym i.long) (omega arith)
