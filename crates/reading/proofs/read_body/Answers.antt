-- `reading::read_body` meets its contract. Each turn adds a subgoal to those read; the room left falls. Assumes nothing.
use mathlib.Core.Path.{refl, sym, ◌∙◌}
use native.Mathlib.Omega.{arith}
use Rattle.records.proofs.Laws.Reads.{passed}
use Rattle.reading.proofs.Laws.Bodies.{bodying_start, bodying_full, bodying_bad, bodying_next, bodying_end}
use Rattle.reading.proofs.read_body.Goals as goal

pub loop-left-init : goal.loop-left-init
loop-left-init c = bodying_start _ _ _ _

pub returns-then-n-ge-MAX_SUBGOALS : goal.returns-then-n-ge-MAX_SUBGOALS
returns-then-n-ge-MAX_SUBGOALS c =
    rw c.wrong.ensures
    (bodying_full _ _ _ _ c.loop-left.invariant (sym c.is_subgoal.ensures.value ∙ c.loop-left-test.true) c.if-n-ge-MAX_SUBGOALS.true)

pub returns-in_err-call : goal.returns-in_err-call
returns-in_err-call c =
    rw (passed _ c.from_residual.ensures.1)
    (bodying_bad _ _ _ _ c.loop-left.invariant (sym c.is_subgoal.ensures.value ∙ c.loop-left-test.true) (omega arith) c.read_subgoal.ensures c.in_err-call.was)

pub loop-left-preserved : goal.loop-left-preserved
loop-left-preserved c =
    bodying_next _ _ _ _ c.loop-left.invariant (sym c.is_subgoal.ensures.value ∙ c.loop-left-test.true) (omega arith) c.read_subgoal.ensures c.in_ok-call.was c.put.ensures

pub returns : goal.returns
returns c = bodying_end _ _ _ _ c.loop-left.invariant (sym c.is_subgoal.ensures.value ∙ c.loop-left-test.false) refl c.put-2.ensures
