-- 64 lanes in a word: lane a of a word is its bit a, and stands for head pattern a. Assumes nothing.
use Rattle.std.specs.Prelude.{◌≡◌, cond, List, map, ℕ}
use Rattle.masks.specs.Set.{bit_at}
use Rattle.masks.specs.Patterns.{EachLane}
use Rattle.book.specs.Book.{Call}
use Rattle.ordering.specs.Adorn.{Bound, after}

-- a word for each variable, with the lanes in which it is bound: the variables that are bound in lane a
unfoldable pub lane : ℕ → List ℕ → Bound
lane a vars = map (λ w. bit_at w a) vars

-- the subgoal is taken in the lanes of r, and elsewhere all is as it was
pub record Binds (s : Call) (r : ℕ) (before then : List ℕ) : Type 0 where
  pub lanes : EachLane (λ a. lane a then ≡ cond (bit_at r a) (after (lane a before) s) (lane a before))
