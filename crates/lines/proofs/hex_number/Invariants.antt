-- `lines::hex_number` meets its contract. The loop reads the first 16 digits, one at a turn, and 16 of them fit 64 bits. Assumes nothing.
use mathlib.Core.Path.{◌≡◌}
use Prim.Native.Nat.{◌<◌, ◌^◌}
use lib.ListN.{take}
use Rattle.lines.specs.Hex.{number_from}
use Rattle.lines.proofs.hex_number.Given as goal

abbrev pub invariant-loop-x : goal.invariant-loop-x
invariant-loop-x l = record { is : l.n ≡ number_from 16 0 (take l.x-index l.x-items); small : l.n < 16 ^ l.x-index }
