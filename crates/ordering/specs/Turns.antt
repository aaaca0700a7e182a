-- Taking things one after the other, over a state that grows. Assumes nothing.
use Rattle.std.specs.Prelude.{Bool, true, false, cond, List, [], ◌∷◌, ℕ}
use Rattle.std.proofs.Math.Option.{Option}
use Rattle.ordering.specs.Orders.{find, orders}

-- `ready b p`: the place p can be taken at the state b; `after b p` is the state then
module _ {B : Type 0} (ready : B → ℕ → Bool) (after : B → ℕ → B) where
  -- taken in this order, each is ready in its turn
  unfoldable pub good_from : B → List ℕ → Bool
  good_from b [] = true
  good_from b (p ∷ σ) = let r = good_from (after b p) σ in cond (ready b p) r false

  -- the first good order of n places
  unfoldable pub first_good : B → ℕ → Option (List ℕ)
  first_good b n = find (good_from b) (orders n)

-- the state when all of a list are taken
module _ {B : Type 0} (after : B → ℕ → B) where
  unfoldable pub all_after : B → List ℕ → B
  all_after b [] = b
  all_after b (p ∷ σ) = all_after (after b p) σ
