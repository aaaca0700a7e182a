-- `lines::hex_number` meets its contract. The loop reads the first 16 digits, one at a turn, and 16 of them fit 64 bits. Assumes nothing.
use mathlib.Core.Path.{◌∙◌}
use Prim.Native.Nat.{ℕ}
use native.Mathlib.Omega.{arith}
use lib.ListN.{length-take}
use Rattle.lines.proofs.Laws.Hex.{digit_small, digit_room, number_next}
use Rattle.lines.proofs.hex_number.Goals as goal

pub overflow_mul-n : goal.overflow_mul-n
overflow_mul-n c = let m = digit_room c.loop-x.x-index 0 c.loop-x.invariant.small (omega arith) (omega (arith, length-take {A = ℕ})) in omega arith

pub overflow_add-n : goal.overflow_add-n
overflow_add-n c = let m = digit_room c.loop-x.x-index c.from.result c.loop-x.invariant.small (omega arith) (omega (arith, length-take {A = ℕ})) in omega arith

pub loop-x-preserved : goal.loop-x-preserved
loop-x-preserved c = record {
  is = number_next 16 _ c.loop-x.invariant.is c.loop-x-test.true (c.from.ensures ∙ c.digit.ensures.value);
  small = digit_small c.loop-x.x-index c.from.result c.loop-x.invariant.small (omega arith);
}
