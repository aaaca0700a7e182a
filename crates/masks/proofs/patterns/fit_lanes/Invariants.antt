-- `masks::patterns::fit_lanes` meets its contract. The loop goes over the masks; its invariant: r has the lanes whose pattern fits one of those passed.
-- Assumes nothing.
use Rattle.masks.specs.Set.{members}
use Rattle.masks.proofs.Laws.Loops.{Over}
use Rattle.masks.proofs.Laws.Sets.{Tried}
use Rattle.masks.proofs.patterns.fit_lanes.Given as goal

abbrev pub invariant-loop-m : goal.invariant-loop-m
invariant-loop-m l = Over (Tried l.words l.masks l.r) l.masks (members l.m-iterator.left)
