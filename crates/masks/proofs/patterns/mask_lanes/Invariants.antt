-- `masks::patterns::mask_lanes` meets its contract. The loop goes over the bits of the mask; its invariant: w has the lanes whose pattern has those passed.
-- Assumes nothing.
use Rattle.masks.specs.Set.{members}
use Rattle.masks.proofs.Laws.Loops.{Over}
use Rattle.masks.proofs.Laws.Patterns.{Masked}
use Rattle.masks.proofs.patterns.mask_lanes.Given as goal

abbrev pub invariant-loop-i : goal.invariant-loop-i
invariant-loop-i l = Over (Masked l.mask l.words l.w) l.mask (members l.i-iterator.left)
