-- `masks::constraint::with_unions` meets its contract. The loop's invariant: the set has the unions with the first i masks. Assumes nothing.
use mathlib.Core.List.{map}
use mathlib.Core.Bool.{◌||◌}
use Prim.Native.Nat.{◌≤◌}
use lib.Bits.{bit_or}
use lib.ListN.{length, take}
use Rattle.masks.specs.Set.{bit_at, Holds}
use Rattle.masks.specs.Lists.{has}
use Rattle.masks.proofs.constraint.with_unions.Given as goal

abbrev pub invariant-loop-mask : goal.invariant-loop-mask
invariant-loop-mask l = (l.mask-index ≤ length l.masks) × Holds l.all (λ k. bit_at l.set k || has (map (bit_or l.m) (take l.mask-index l.masks)) k)
