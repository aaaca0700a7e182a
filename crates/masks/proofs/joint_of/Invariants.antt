-- `masks::joint_of` meets its contract. The loop's invariant: the set has the unions of the first i masks of one list with those of the other. Assumes nothing.
use Prim.Native.Nat.{◌≤◌}
use lib.ListN.{length, take}
use Rattle.masks.specs.Set.{Holds}
use Rattle.masks.specs.Lists.{has}
use Rattle.masks.specs.Constraint.{unions}
use Rattle.masks.proofs.joint_of.Given as goal

abbrev pub invariant-loop-m : goal.invariant-loop-m
invariant-loop-m l = (l.m-index ≤ length l.first.list.now) × Holds l.set (has (unions (take l.m-index l.first.list.now) l.second.list.now))
