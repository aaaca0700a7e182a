-- `masks::patterns::mask_lanes` meets its contract. The loop goes over the bits of the mask; its invariant: w has the lanes whose pattern has those passed.
-- Assumes nothing.
use mathlib.Core.Path.{◌≡◌}
use mathlib.Core.Bool.{false}
use Prim.Native.Nat.{ℕ, suc, ◌<◌}
use native.Mathlib.Omega.{arith}
use borrow.Author.Rules.{rules}
use Rattle.masks.specs.Set.{bit_at}
use Rattle.masks.proofs.Laws.Loops.{over_start, over_end, over_member, over_here, over_next}
use Rattle.masks.proofs.Laws.Patterns.{member_below, Masked, masked_start, masked_skip, masked_next, masked_end}
use Rattle.masks.proofs.patterns.mask_lanes.Goals as goal
use Rattle.masks.proofs.patterns.mask_lanes.Goals.{In-Some}

pub loop-i-init : goal.loop-i-init
loop-i-init c =
    let mask = c.args.mask in
    rw (c.into_iter-i-iterator.ensures.into_iter_gives, c.of-i-items.ensures)
    (over_start (Masked mask c.args.words.now _) mask (masked_start mask c.args.words.now))

-- in a turn: i is the lowest bit of those left, which is below six
module _ (c : In-Some) where
  abbrev Here : ℕ → Type 0
  Here = Masked c.args.mask c.args.words.now c.loop-i.w

  abbrev skip : (k : ℕ) → bit_at c.args.mask k ≡ false → Here k → Here (suc k)
  skip = masked_skip c.args.mask c.args.words.now c.loop-i.w

  low : c.in-Some.i < 6
  low = member_below 6 c.args.mask c.in-Some.i c.requires (over_member Here c.args.mask _ skip c.loop-i.invariant _ _ c.in-Some.ensures.steps)

pub bounds-words-i : goal.bounds-words-i
bounds-words-i c = let l = low c.before.before in omega arith

pub loop-i-preserved : goal.loop-i-preserved
loop-i-preserved c =
    let d = c.before.before.before in
    let mask = d.args.mask in
    let words = d.args.words.now in
    over_next (Here d) mask _ (skip d) d.loop-i.invariant _ _ d.in-Some.ensures.steps (Masked mask words _)
    (masked_next mask words d.loop-i.w d.in-Some.i (low d) (over_member (Here d) mask _ (skip d) d.loop-i.invariant _ _ d.in-Some.ensures.steps)
    (over_here (Here d) mask _ (skip d) d.loop-i.invariant _ _ d.in-Some.ensures.steps))

pub returns : goal.returns
returns c =
    let mask = c.args.mask in
    let words = c.args.words.now in
    let l = c.loop-i in
    masked_end mask words l.w 64 (search rules)
    (over_end (Masked mask words l.w) mask _ (masked_skip mask words l.w) l.invariant c.in-None.ensures.steps.0)
