-- `masks::constraint::least` meets its contract. The loop's invariant: the kept are least, and those left are what contains none of them. Assumes nothing.
use mathlib.Core.Path.{◌≡◌}
use lib.Count.{count_trailing_zeros}
use borrow.Author.Rules.{rules}
use Rattle.masks.specs.Mask.{within}
use Rattle.masks.specs.Set.{bit_at}
use Rattle.masks.proofs.Laws.Members.{Lowest, lowest}
use Rattle.masks.proofs.Laws.Sets.{in_columns, keeping_start, keeping_next, keeping_less, keeping_end}
use Rattle.masks.proofs.constraint.least.Lts
use Rattle.masks.proofs.constraint.least.Reads
use Rattle.masks.proofs.constraint.least.Tie
use Rattle.masks.proofs.constraint.least.Goals as goal

-- places that several goals come past
abbrev In-loop-rest : Type 0
In-loop-rest = Lts.In-loop Tie.the-claims Reads.Pre Reads.Post goal.the-invariant-loop-rest goal.the-decreases-loop-rest

pub loop-rest-init : goal.loop-rest-init
loop-rest-init c = keeping_start c.args.set (search rules)

-- in a turn: m is the lowest of those left
first : (c : In-loop-rest) → Lowest 64 c.loop-rest.rest (count_trailing_zeros 64 c.loop-rest.rest)
first c = lowest 64 c.loop-rest.rest c.loop-rest.invariant.small c.loop-rest-test.true

pub loop-rest-smaller : goal.loop-rest-smaller
loop-rest-smaller c =
    let d = c.before.before.before in
    keeping_less _ _ d.loop-rest.rest _ _ d.loop-rest.invariant (first d) (in_columns (λ a p. bit_at _ a ≡ within _ p) c.mask_lanes.ensures)

pub loop-rest-preserved : goal.loop-rest-preserved
loop-rest-preserved c =
    let d = c.before.before.before in
    rw c.with_member-kept.ensures
    (keeping_next _ _ d.loop-rest.rest _ _ d.loop-rest.invariant (first d) (in_columns (λ a p. bit_at _ a ≡ within _ p) c.mask_lanes.ensures))

pub returns : goal.returns
returns c = keeping_end c.args.set _ c.loop-rest.rest c.loop-rest-test.false c.loop-rest.invariant
