-- `masks::constraint::has_member` meets its contract. The lowest bit of a word moved down by m is its bit m. Assumes nothing.
use mathlib.Core.Path.{◌≡◌, ap, ◌∙◌}
use Prim.Native.Nat.{◌+◌}
use native.Mathlib.Omega.{arith}
use Rattle.masks.specs.Set.{bit_at}
use Rattle.masks.proofs.Laws.Set.{bit_at_shift}
use Rattle.masks.proofs.constraint.has_member.Goals as goal

pub returns : goal.returns
unfolding bit_at
returns c =
    let e : c.args.m + 0 ≡ c.args.m = omega arith in
    bit_at_shift c.args.set c.args.m 0 ∙ ap (bit_at c.args.set) e
