-- `masks::patterns::fit_lanes` meets its contract. The loop goes over the masks; its invariant: r has the lanes whose pattern fits one of those passed.
-- Assumes nothing.
use Rattle.masks.proofs.Laws.Loops.{over_start, over_end, over_small, over_member, over_here, over_next}
use Rattle.masks.proofs.Laws.Sets.{Tried, tried_start, tried_skip, tried_next, tried_end}
use Rattle.masks.proofs.patterns.fit_lanes.Goals as goal

pub loop-m-init : goal.loop-m-init
loop-m-init c =
    let s = c.args in
    rw (c.into_iter-m-iterator.ensures.into_iter_gives, c.of-m-items.ensures) (over_start (Tried s.words.now s.masks 0) s.masks (tried_start s.words.now s.masks))

pub mask_lanes-r-requires : goal.mask_lanes-r-requires
mask_lanes-r-requires c =
    let s = c.args in
    over_small (Tried s.words.now s.masks c.loop-m.r) s.masks _ (tried_skip s.words.now s.masks c.loop-m.r) c.loop-m.invariant _ _ c.in-Some.ensures.steps

pub loop-m-preserved : goal.loop-m-preserved
loop-m-preserved c =
    let s = c.args in
    let l = c.loop-m in
    let e = c.in-Some.ensures.steps in
    let skip = tried_skip s.words.now s.masks l.r in
    over_next (Tried s.words.now s.masks l.r) s.masks _ skip l.invariant _ _ e (Tried s.words.now s.masks _)
    (tried_next s.words.now s.masks l.r _ c.in-Some.m (over_member _ s.masks _ skip l.invariant _ _ e) c.mask_lanes-r.ensures
    (over_here (Tried s.words.now s.masks l.r) s.masks _ skip l.invariant _ _ e))

pub returns : goal.returns
returns c =
    let s = c.args in
    let l = c.loop-m in
    tried_end s.words.now s.masks l.r
    (over_end (Tried s.words.now s.masks l.r) s.masks _ (tried_skip s.words.now s.masks l.r) l.invariant c.in-None.ensures.steps.0)
