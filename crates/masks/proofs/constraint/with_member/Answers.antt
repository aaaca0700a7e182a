-- `masks::constraint::with_member` meets its contract. Two to the power of a mask is below 2 ^ 64, so the shift loses nothing. Assumes nothing.
use mathlib.Core.Path.{◌≡◌, ap}
use Prim.Native.Nat.{◌%◌, ◌^◌, ◌*◌}
use native.Mathlib.Omega.{arith}
use lib.Pow.{pow-lt}
use lib.Bits.{bit_or}
use Rattle.masks.proofs.constraint.with_member.Goals as goal

pub returns : goal.returns
returns c =
    let h = pow-lt {j = 64} c.requires in
    let e : (1 * 2 ^ c.args.m) % 2 ^ 64 ≡ 2 ^ c.args.m = omega arith in
    ap (bit_or c.args.set) e
