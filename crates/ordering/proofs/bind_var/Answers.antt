-- `ordering::bind_var` meets its contract. The test is that of `bind_var`, and the bit of a variable is below 2 ^ 16. Assumes nothing.
use mathlib.Core.Path.{◌≡◌, sym, ap, ◌∙◌}
use Prim.Native.Nat.{ℕ, ◌*◌, ◌%◌, ◌^◌}
use native.Mathlib.Omega.{arith}
use lib.Bits.{bit_or}
use lib.Pow.{pow-lt}
use Rattle.ordering.specs.Held.{bound_of}
use Rattle.ordering.proofs.Laws.Steps.{var_skip}
use Rattle.ordering.proofs.Laws.Bound.{bound_more}
use Rattle.ordering.proofs.bind_var.Goals as goal

pub returns-then-v-le-LAST_VARIABLE : goal.returns-then-v-le-LAST_VARIABLE
returns-then-v-le-LAST_VARIABLE c =
    let s = c.args in
    let h = pow-lt {i = s.v} {j = 16} (omega arith) in
    let e : (1 * 2 ^ s.v) % 2 ^ 16 ≡ 2 ^ s.v = omega arith in
    ap (λ (x : ℕ). bound_of (bit_or s.bound x)) e ∙ bound_more s.bound s.v (omega arith)

pub returns-else-v-le-LAST_VARIABLE : goal.returns-else-v-le-LAST_VARIABLE
returns-else-v-le-LAST_VARIABLE c = let s = c.args in sym (var_skip (bound_of s.bound) s.v (omega arith))
