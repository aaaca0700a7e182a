-- `masks::constraint::written` meets its contract. The outer loop goes over the members of the set; its invariant: of the masks passed, those that the
-- written form keeps are kept. The inner loop's: none of the kept masks passed is contained in m. Assumes nothing.
use Rattle.masks.proofs.Laws.Mask.{within_and, and_within}
use Rattle.masks.proofs.Laws.Logic.{false_of}
use Rattle.masks.proofs.Laws.Loops.{over_start, over_end, over_small, over_member, over_here, over_next}
use Rattle.masks.proofs.Laws.Kept.{Kept, Clear, kept_start, kept_absent, kept_dropped, kept_new, kept_end, clear_start, clear_absent, clear_next}
use Rattle.masks.proofs.constraint.written.Goals as goal

pub outer-init : goal.outer-init
outer-init c =
    rw (c.into_iter-m-iterator.ensures.into_iter_gives, c.of-m-items.ensures) (over_start (Kept c.args.set 0) c.args.set (kept_start c.args.set))

pub loop-k-init : goal.loop-k-init
loop-k-init c =
    let kept = c.outer.kept in
    rw (c.into_iter-k-iterator.ensures.into_iter_gives, c.of-k-items.ensures) (over_start (Clear kept c.in-Some.m) kept (clear_start kept c.in-Some.m))

pub outer-preserved-then-k-m : goal.outer-preserved-then-k-m
outer-preserved-then-k-m c =
    let set = c.args.set in
    let kept = c.outer.kept in
    let m = c.in-Some.m in
    let k = c.in-Some-k.k in
    let e = c.in-Some.ensures.steps in
    let skip = kept_absent set kept in
    let among = over_member (Clear kept m) kept _ (clear_absent kept m) c.loop-k.invariant _ _ c.in-Some-k.ensures.steps in
    over_next (Kept set kept) set _ skip c.outer.invariant _ _ e (Kept set kept)
    (kept_dropped set kept m k among (and_within k m c.if-k-m.true) (over_here (Kept set kept) set _ skip c.outer.invariant _ _ e))

pub loop-k-preserved : goal.loop-k-preserved
loop-k-preserved c =
    let kept = c.outer.kept in
    let m = c.in-Some.m in
    let k = c.in-Some-k.k in
    let e = c.in-Some-k.ensures.steps in
    let skip = clear_absent kept m in
    over_next (Clear kept m) kept _ skip c.loop-k.invariant _ _ e (Clear kept m)
    (clear_next kept m k (false_of (λ w. c.if-k-m.false (within_and k m w))) (over_here (Clear kept m) kept _ skip c.loop-k.invariant _ _ e))

pub with_member-kept-requires : goal.with_member-kept-requires
with_member-kept-requires c =
    over_small (Kept c.args.set c.outer.kept) c.args.set _ (kept_absent c.args.set c.outer.kept) c.outer.invariant _ _ c.in-Some.ensures.steps

pub outer-preserved : goal.outer-preserved
outer-preserved c =
    let set = c.args.set in
    let kept = c.outer.kept in
    let m = c.in-Some.m in
    let e = c.in-Some.ensures.steps in
    let skip = kept_absent set kept in
    let i = c.outer.invariant in
    let clear = over_end (Clear kept m) kept _ (clear_absent kept m) c.loop-k.invariant c.in-None-k.ensures.steps.0 in
    rw c.with_member-kept.ensures
    (over_next (Kept set kept) set _ skip i _ _ e (Kept set _)
    (kept_new set kept m (over_small (Kept set kept) set _ skip i _ _ e) (over_member (Kept set kept) set _ skip i _ _ e) clear
    (over_here (Kept set kept) set _ skip i _ _ e)))

pub returns : goal.returns
returns c =
    let s = c.args.set in
    let o = c.outer in
    kept_end s o.kept (over_end (Kept s o.kept) s _ (kept_absent s o.kept) o.invariant c.in-None.ensures.steps.0)
