-- `masks::constraint::with_unions` meets its contract. The loop's invariant: the set has the unions with the first i masks. Assumes nothing.
use mathlib.Core.Path.{ap, ◌∙◌}
use Prim.Native.Nat.{ℕ}
use native.Mathlib.Omega.{arith}
use Rattle.masks.specs.Set.{bit_at}
use Rattle.masks.proofs.Laws.Set.{with_next, union_below}
use Rattle.masks.proofs.constraint.with_unions.Goals as goal

pub with_member-all-requires : goal.with_member-all-requires
with_member-all-requires c =
    let l = c.loop-mask in
    let s = c.args in
    union_below s.m s.masks.now l.mask-index c.requires.0 c.requires.1 (omega arith)

pub loop-mask-preserved : goal.loop-mask-preserved
loop-mask-preserved c =
    let l = c.loop-mask in
    let s = c.args in
    (omega arith, λ k. ap (λ (w : ℕ). bit_at w k) c.with_member-all.ensures ∙ with_next s.set s.m s.masks.now l.all l.mask-index (omega arith) l.invariant.1 k)
