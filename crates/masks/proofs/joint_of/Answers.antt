-- `masks::joint_of` meets its contract. The loop's invariant: the set has the unions of the first i masks of one list with those of the other. Assumes nothing.
use mathlib.Core.Path.{◌∙◌}
use native.Mathlib.Omega.{arith}
use Rattle.masks.proofs.Laws.Joining.{joint_start, joint_next, joint_held}
use Rattle.masks.proofs.Laws.Constraint.{in_range_at}
use Rattle.masks.proofs.joint_of.Goals as goal

pub loop-m-init : goal.loop-m-init
loop-m-init c = (omega arith, joint_start c.args.first.list.now c.args.second.list.now)

pub with_unions-set-requires : goal.with_unions-set-requires
with_unions-set-requires c =
    let l = c.loop-m in
    let s = c.args in
    (in_range_at 64 s.first.list.now l.m-index s.first.in_range (omega arith), s.second.in_range)

pub loop-m-preserved : goal.loop-m-preserved
loop-m-preserved c =
    let s = c.args in
    let l = c.loop-m in
    (omega arith, joint_next l.set c.with_unions-set.result s.first.list.now s.second.list.now l.m-index (omega arith) l.invariant.1 c.with_unions-set.ensures)

pub returns : goal.returns
returns c =
    let s = c.args in
    let l = c.loop-m in
    c.written.ensures ∙ joint_held l.set s.first.list.now s.second.list.now l.m-index (omega arith) l.invariant.1
