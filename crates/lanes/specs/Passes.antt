-- Passes over the places as they stand, each taken where it is ready. Assumes nothing.
use Rattle.std.specs.Prelude.{◌≡◌, Bool, true, false, cond, List, [], ◌∷◌, ℕ, zero, suc, ◌<◌, length, get_or}
use Rattle.masks.specs.Set.{bit_at}
use Rattle.masks.specs.Patterns.{EachLane}
use Rattle.book.specs.Book.{Call}
use Rattle.book.specs.Table.{Table}
use Rattle.ordering.specs.Orders.{count}
use Rattle.ordering.specs.Adorn.{Bound}
use Rattle.ordering.specs.Good.{ready_at, after_at, good_from, ran}
use Rattle.lanes.specs.Lanes.{lane}
use Rattle.lanes.specs.declared.Pass.{Pass}

-- `ready b p`: the place p can be taken at the state b; `after b p` is the state then
module _ {B : Type 0} (ready : B → ℕ → Bool) (after : B → ℕ → B) where
  -- p is taken where it is ready
  unfoldable pub visit : B → ℕ → B
  visit b p = cond (ready b p) (after b p) b

  unfoldable pub visits : B → List ℕ → B
  visits b [] = b
  visits b (p ∷ σ) = visits (visit b p) σ

  -- k passes over n places
  unfoldable pub passes : ℕ → ℕ → B → B
  passes n zero b = b
  passes n (suc k) b = passes n k (visits b (count 0 n))

-- the place p is ready, and taking it changes nothing: it is taken already
pub record Taken (T : Table) (body : List Call) (b : Bound) (p : ℕ) : Type 0 where
  pub ready· : ready_at T body b p ≡ true
  pub still : after_at body b p ≡ b

-- a word for each subgoal, with lanes in which it is taken
abbrev pub Placed : Table → List Call → List ℕ → List ℕ → Type 0
Placed T body vars placed = (p : ℕ) → p < length body → EachLane (λ a. bit_at (get_or placed p 0) a ≡ true → Taken T body (lane a vars) p)

-- in lane a, what is bound is what is bound when all of a body have run
abbrev pub RanIn : ℕ → List Call → List ℕ → List ℕ → Type 0
RanIn a body before after = lane a after ≡ ran body (lane a before) (count 0 (length body))

-- one pass over a body in each lane: the variables bound after it, the lanes in which each subgoal was ready in its turn, and whether any was taken
pub record Passed (T : Table) (body : List Call) (before after : List ℕ) (r : Pass) : Type 0 where
  pub lanes : EachLane (λ a. lane a after ≡ visits (ready_at T body) (after_at body) (lane a before) (count 0 (length body)))
  pub good : EachLane (λ a. bit_at r.good a ≡ good_from T body (lane a before) (count 0 (length body)))
  pub still : r.moved ≡ false → after ≡ before
