-- `masks::list_fault` meets its contract. The loop's invariant: the first i masks are in range. Assumes nothing.
use mathlib.Core.Path.{sym, ap}
use native.Mathlib.Omega.{arith}
use Rattle.masks.specs.Unjoined.{told}
use Rattle.masks.proofs.Laws.Joining.{fault_long, fault_mask, fault_none, range_start, range_next, range_end}
use Rattle.masks.proofs.list_fault.Goals as goal

pub returns-then-masks-gt-MAX_MASKS : goal.returns-then-masks-gt-MAX_MASKS
returns-then-masks-gt-MAX_MASKS c = ap told (fault_long c.args.limit c.args.masks.now (omega arith))

pub loop-m-init : goal.loop-m-init
loop-m-init c = (omega arith, range_start c.args.limit c.args.masks.now)

pub returns-then-limit-m : goal.returns-then-limit-m
returns-then-limit-m c =
    let s = c.args in
    ap told (fault_mask s.limit s.masks.now (omega arith) c.loop-m.m-index (omega arith) (omega arith))

pub loop-m-preserved : goal.loop-m-preserved
loop-m-preserved c =
    let s = c.args in
    let l = c.loop-m in
    (omega arith, range_next s.limit s.masks.now l.m-index (omega arith) (omega arith) l.invariant.1)

pub returns : goal.returns
returns c =
    let l = c.loop-m in
    let s = c.args in
    sym (fault_none s.limit s.masks.now (omega arith) (range_end s.limit s.masks.now l.m-index (omega arith) l.invariant.1))
