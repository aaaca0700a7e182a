-- `masks::list_fault` meets its contract. The loop's invariant: the first i masks are in range. Assumes nothing.
use mathlib.Core.Bool.{true}
use mathlib.Core.Path.{◌≡◌}
use Prim.Native.Nat.{◌≤◌}
use lib.ListN.{length, take}
use Rattle.masks.specs.Constraint.{in_range}
use Rattle.masks.proofs.list_fault.Given as goal

abbrev pub invariant-loop-m : goal.invariant-loop-m
invariant-loop-m l = (l.m-index ≤ length l.masks) × (in_range l.limit (take l.m-index l.masks) ≡ true)
