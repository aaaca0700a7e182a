-- `lanes::bind_lanes` meets its contract. A negated subgoal binds nothing. The loop's invariant: the contract for the first i arguments. Assumes nothing.
use mathlib.Core.Path.{sym, ◌∙◌}
use native.Mathlib.Omega.{arith}
use Rattle.book.specs.Held.{call_in}
use Rattle.lanes.proofs.Laws.Steps.{one_var, one_other, binding_none, binding_start, binding_next}
use Rattle.lanes.proofs.bind_lanes.Goals.{then-v-le-LAST_VARIABLE, else-v-le-LAST_VARIABLE}
use Rattle.lanes.proofs.bind_lanes.Goals as goal

pub returns-then-is_negated : goal.returns-then-is_negated
returns-then-is_negated c =
    let s = c.args in
    binding_none (call_in s.s.word) s.r s.vars.now (sym c.is_negated.ensures ∙ c.if-is_negated.true)

pub loop-i-init : goal.loop-i-init
loop-i-init c = let args = c.args in binding_start (call_in args.s.word).pred (call_in args.s.word).args args.r args.vars.now

pub loop-i-preserved : goal.loop-i-preserved
loop-i-preserved c =
    let l = c.loop-i in
    let args = c.args in
    let n = c.arguments-i-end.ensures in
    let v = c.argument-v in
    let next = binding_next (call_in args.s.word).pred (call_in args.s.word).args args.r args.vars.now l.i (omega arith) in
    elim c.if-v-le-LAST_VARIABLE.branch [
      | then-v-le-LAST_VARIABLE u ↦ next (rw (← v.ensures) (one_var v.result args.r l.vars (omega arith) u.vars-is)) l.invariant
      | else-v-le-LAST_VARIABLE u ↦ next (rw (← v.ensures) (one_other v.result args.r l.vars (omega arith) u.vars-is)) l.invariant
    ]
