-- `ordering::bound::Bound::pattern` meets its contract. The bits of three bytes, or of six, cut to as many as there are arguments, are those of the arguments;
-- and each tells whether its argument is bound. Assumes nothing.
use mathlib.Core.Path.{ap, ap₂, ◌∙◌}
use Prim.Native.Nat.{ℕ, ◌+◌, ◌*◌, ◌%◌, ◌^◌}
use native.Mathlib.Omega.{arith}
use Rattle.ordering.proofs.Laws.Bound.{power_is, counted, pattern_three, pattern_six}
use Rattle.ordering.proofs.bound.Bound.pattern.Goals.{then-n-le3, else-n-le3}
use Rattle.ordering.proofs.bound.Bound.pattern.Goals as goal

pub returns : goal.returns
returns c =
    let w = c.self.inside.word in
    let s = c.args.s.word in
    let low = c.three_bits-low.ensures.value in
    rw (← c.self.view_is)
    (ap (λ (d : ℕ). c.if-n-le3.all % d) (power_is _ (counted s) c.power.ensures (omega arith))
    ∙ (elim c.if-n-le3.branch [
      | then-n-le3 u ↦ ap (λ (x : ℕ). x % 2 ^ counted s) (u.all-is ∙ low) ∙ pattern_three w s c.self.invariant c.requires (omega arith)
      | else-n-le3 u ↦
          ap (λ (x : ℕ). x % 2 ^ counted s) (u.all-is ∙ ap₂ (λ (x y : ℕ). x + 8 * y) low u.three_bits.ensures.value)
          ∙ pattern_six w s c.self.invariant c.requires
    ]))
