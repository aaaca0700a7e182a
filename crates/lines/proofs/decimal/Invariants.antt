-- `lines::decimal` meets its contract. The loop's invariant: the number is that of the digits passed, or the most where that is less. Assumes nothing.
use mathlib.Core.Path.{◌≡◌}
use Prim.Native.Nat.{min}
use lib.ListN.{take}
use Rattle.lines.specs.Hex.{number_from}
use Rattle.lines.proofs.decimal.Given as goal

abbrev pub invariant-loop-x : goal.invariant-loop-x
invariant-loop-x l = l.n ≡ min l.most (number_from 10 0 (take l.x-index l.word))
