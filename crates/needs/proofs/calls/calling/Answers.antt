-- `needs::calls::calling` meets its contract. The loop goes over the members of `called`; its invariant: the set has the callers of those passed.
-- Assumes nothing.
use native.Mathlib.Omega.{arith}
use Rattle.needs.proofs.Laws.Calls.{passing_start, passing_low, passing_next, passing_end}
use Rattle.needs.proofs.calls.calling.Goals as goal

pub loop-q-init : goal.loop-q-init
loop-q-init c =
    rw (c.into_iter-q-iterator.ensures.into_iter_gives, c.of-q-items.ensures) (passing_start c.args.callers.now c.args.called)

pub bounds-callers-q : goal.bounds-callers-q
bounds-callers-q c = let l = passing_low _ _ _ _ c.loop-q.invariant _ _ c.in-Some.ensures.steps in omega arith

pub loop-q-preserved : goal.loop-q-preserved
loop-q-preserved c = passing_next _ _ _ _ c.loop-q.invariant _ _ c.in-Some.ensures.steps

pub returns : goal.returns
returns c = passing_end _ _ _ _ c.loop-q.invariant c.in-None.ensures.steps.0
