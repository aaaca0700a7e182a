-- `masks::constraint::fitting` meets its contract. An arity has at most 64 patterns, so the shift keeps at least one lane. Assumes nothing.
use mathlib.Core.Path.{◌≡◌, ap, ◌∙◌}
use Prim.Native.Nat.{◌-◌, ◌^◌}
use native.Mathlib.Omega.{arith}
use lib.Pow.{pow_pos}
use Rattle.masks.specs.Lists.{how_many}
use Rattle.masks.specs.Set.{bit_at}
use Rattle.masks.proofs.Laws.Joining.{power_le}
use Rattle.masks.proofs.Laws.Counts.{common_bits}
use Rattle.masks.proofs.constraint.fitting.Goals as goal

pub overflow_sub-lanes : goal.overflow_sub-lanes
overflow_sub-lanes c = omega (arith, power_le c.args.arity c.requires)

pub overflow_shr-lanes : goal.overflow_shr-lanes
overflow_shr-lanes c = omega (arith, pow_pos c.args.arity)

pub returns : goal.returns
returns c =
    let k = c.before.before in
    let n = c.patterns.result in
    let e : n ≡ 2 ^ k.args.arity = omega (arith, pow_pos k.args.arity) in
    c.count.ensures.value ∙ common_bits k.args.set n (64 - n) (omega (arith, power_le k.args.arity k.requires)) ∙ ap (how_many (bit_at k.args.set)) e
