-- `lines::unhex` meets its contract. The loop's invariant: what is written, and the bytes of the rest after it, are the word's bytes. Assumes nothing.
use mathlib.Core.Path.{◌≡◌}
use mathlib.Core.List.{◌++◌}
use Prim.Native.Nat.{◌*◌}
use lib.ListN.{take, drop}
use Rattle.lines.specs.Hex.{bytes_of}
use Rattle.lines.proofs.unhex.Given as goal

abbrev pub invariant-loop-i : goal.invariant-loop-i
invariant-loop-i l = take l.i l.to ++ bytes_of (drop (2 * l.i) l.word) ≡ bytes_of l.word
