-- `ordering::first_order` meets its contract. The loop's invariant: the first i places, with what the greedy rule makes of those left, are what it makes
-- of all; and that is the first good order. Beside each place stands its subgoal's pattern in its turn. Assumes nothing.
use mathlib.Core.Path.{◌≡◌, refl, ap}
use Prim.Native.Nat.{ℕ, ◌-◌, ◌^◌}
use native.Mathlib.Omega.{arith}
use lib.Bits.{bit_xor}
use lib.ListN.{length}
use Rattle.ordering.specs.Held.{bound_of}
use Rattle.ordering.proofs.Laws.Bound.{power_is}
use Rattle.ordering.proofs.Laws.Run.{args_read, after_read}
use Rattle.ordering.proofs.Laws.Patterns.{going_start, going_below, going_next, going_stuck, going_end}
use Rattle.ordering.proofs.first_order.Goals as goal

pub loop-i-init : goal.loop-i-init
loop-i-init c =
    let b = c.args.clause.now.body in
    let n = c.subgoals-n.ensures in
    let all : c.power-left.result ≡ 2 ^ length b = power_is _ (length b) c.power-left.ensures (omega arith) in
    going_start _ b (bound_of c.args.bound) _ _ c.of-now.ensures (ap (λ (k : ℕ). k - 1) all) (omega arith) (omega arith) (omega arith)

pub returns-in_err-t-clause-order : goal.returns-in_err-t-clause-order
returns-in_err-t-clause-order c =
    let n = c.subgoals-n.ensures.value in
    rw c.from_residual.ensures (going_stuck c.loop-i.invariant c.in_err-t.ensures.place (omega arith))

pub subgoal-requires : goal.subgoal-requires
subgoal-requires c = going_below c.loop-i.invariant c.in_ok-t.ensures.place

pub after-now-requires : goal.after-now-requires
after-now-requires c =
    args_read c.args.clause.now.body c.in_ok-t.t.place c.subgoal.ensures c.requires (going_below c.loop-i.invariant c.in_ok-t.ensures.place)

pub loop-i-preserved : goal.loop-i-preserved
loop-i-preserved c =
    let n = c.subgoals-n.ensures in
    let l = c.loop-i in
    let t = c.in_ok-t in
    let here = going_below l.invariant t.ensures.place in
    going_next l.invariant t.t t.ensures.place t.ensures.pattern (omega arith)
    (after_read c.args.clause.now.body t.t.place c.subgoal.ensures l.now c.after-now.ensures)
    (ap (bit_xor l.left) (power_is _ t.t.place c.power-left-in-loop-i.ensures (omega arith))) refl refl

pub returns-clause-order : goal.returns-clause-order
returns-clause-order c = let n = c.subgoals-n in going_end c.loop-i.invariant n.result n.ensures.value (omega arith)
