-- `closing::lacking` meets its contract. A book that lacks a chosen predicate has its lowest in the word that begins behind its predicates. Assumes
-- nothing.
use mathlib.Core.Path.{◌≡◌, sym, ◌∙◌}
use lib.Count.{count_trailing_zeros, trailing_le}
use Rattle.masks.specs.Set.{bit_at, Holds}
use Rattle.masks.proofs.Laws.Logic.{by_range, clash}
use Rattle.masks.proofs.Laws.Set.{bit_at_high}
use Rattle.masks.proofs.Laws.Members.{lowest}
use Prim.Native.Nat.{ℕ, ◌+◌, ◌^◌, ◌<◌}
use native.Mathlib.Omega.{arith}
use borrow.Author.Rules.{rules}
use Rattle.closing.proofs.Laws.Lacked.{lacked_lowest, lacked_none}
use Rattle.closing.proofs.lacking.Goals as goal

-- where a chosen number is lacking there are fewer than 64 predicates, and a byte holds their number with the count of any word's zeros
few : (set n w : ℕ) → set < 2 ^ 64 → w < 2 ^ 64 → Holds w (λ k. bit_at set (n + k)) → (w ≡ 0 → ⊥) → n < 64
few set n w l h e z =
    let m = lowest 64 w h z in
    by_range n 64 (λ t. t) (λ t. clash (sym (e (count_trailing_zeros 64 w)) ∙ m.member) (bit_at_high 64 set _ l (omega arith)))

small : (n w : ℕ) → n < 64 → n + count_trailing_zeros 64 w < 2 ^ 8
small n w h = let l = trailing_le 64 w in omega arith

pub overflow_add-result : goal.overflow_add-result
overflow_add-result c =
    record { fits = small _ _ (few _ _ _ (search rules) (search rules) c.chosen_from-beyond.ensures c.if-beyond-ne0.true) }

pub returns-then-beyond-ne0 : goal.returns-then-beyond-ne0
returns-then-beyond-ne0 c =
    rw (lacked_lowest c.args.set c.args.preds c.chosen_from-beyond.result (search rules) c.chosen_from-beyond.ensures (search rules) c.if-beyond-ne0.true)

pub returns : goal.returns
returns c = rw (lacked_none c.args.set c.args.preds c.chosen_from-beyond.result (search rules) c.chosen_from-beyond.ensures c.if-beyond-ne0.false)
