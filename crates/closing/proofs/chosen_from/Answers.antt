-- `closing::chosen_from` meets its contract. The word moved down by n has its bits from place n on; from place 64 on there are none. Assumes nothing.
use Rattle.std.proofs.Common.{sym, ◌∙◌, ap, ℕ, ◌+◌, ◌/◌, ◌^◌, ◌<◌, Option, Some, None, arith}
use Rattle.std.specs.Option.{SomeIff, unwrap_or}
use borrow.Author.Rules.{rules}
use Rattle.masks.specs.Set.{bit_at, Holds}
use Rattle.masks.proofs.Laws.Set.{bit_at_zero, bit_at_shift, bit_at_high}
use Rattle.closing.proofs.chosen_from.Goals as goal

moved : (w n : ℕ) → w < 2 ^ 64 → (r : Option ℕ) → SomeIff r (n < 64) (w / 2 ^ n) → Holds (unwrap_or r 0) (λ k. bit_at w (n + k))
moved w n small (Some x) s k = ap (λ (v : ℕ). bit_at v k) s.1 ∙ bit_at_shift w n k
moved w n small None beyond k = bit_at_zero k ∙ sym (bit_at_high 64 w (n + k) small (omega arith))

pub returns : goal.returns
returns c = rw c.unwrap_or.ensures (moved c.args.set c.args.n (search rules) c.checked_shr.result c.checked_shr.ensures)
