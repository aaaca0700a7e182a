-- The loop over the members of a set of clauses or of patterns, each with calls of its own: those of the members passed are marked, and a number that
-- is no member has none. A word has as many bits as there are patterns. Assumes nothing.
use mathlib.Core.Path.{◌≡◌}
use mathlib.Core.Bool.{true, false, cond}
use mathlib.Core.List.{List, [], ◌∷◌, append-nil}
use Prim.Native.Nat.{ℕ, suc, ◌<◌}
use lib.Bits.{bit_or}
use Rattle.masks.specs.Limits.{all_patterns}
use Rattle.masks.specs.Lists.{joined}
use Rattle.masks.specs.Set.{bit_at, members}
use Rattle.ordering.specs.Asks.{Asked}
use Rattle.reach.specs.Marked.{Marked}
use Rattle.masks.proofs.Laws.Loops.{Over, over_start, over_end, over_small, over_member, over_here, over_next}
use Rattle.reach.proofs.Laws.Marked.{marked_nil, marked_append}

-- those below n
abbrev Passed : (ℕ → List Asked) → ℕ → List ℕ → List ℕ → ℕ → ℕ → Type 0
Passed f set before words names n = Marked before words names (joined (λ k. cond (bit_at set k) (f k) []) n)

-- what is left of the members
pub record Passing (f : ℕ → List Asked) (set : ℕ) (before words : List ℕ) (names : ℕ) (left : List ℕ) : Type 0 where
  pub over : Over (Passed f set before words names) set left

module _ {f : ℕ → List Asked} {set : ℕ} {before : List ℕ} where
  pub passing_start : Passing f set before before 0 (members set)
  passing_start = record { over = over_start (Passed f set before before 0) set (marked_nil before) }

  module _ {words : List ℕ} {names : ℕ} {left : List ℕ} (m : Passing f set before words names left) where
    abbrev P : ℕ → Type 0
    P = Passed f set before words names

    absent : (k : ℕ) → bit_at set k ≡ false → P k → P (suc k)
    absent k t p = rw (t, append-nil (joined (λ k. cond (bit_at set k) (f k) []) k)) p

    pub passing_end : left ≡ [] → Marked before words names (joined (λ k. cond (bit_at set k) (f k) []) all_patterns)
    passing_end z = over_end P set left absent m.over z

    -- in a turn: the lowest of those left
    module _ {k : ℕ} {others : List ℕ} (e : left ≡ k ∷ others) where
      pub passing_low : k < all_patterns
      passing_low = over_small P set left absent m.over k others e

      pub passing_member : bit_at set k ≡ true
      passing_member = over_member P set left absent m.over k others e

      here : P k
      here = over_here P set left absent m.over k others e

      pub passing_next : {after : List ℕ} {more : ℕ} → Marked words after more (f k) → Passing f set before after (bit_or names more) others
      passing_next {after} {more} d =
          record { over = over_next P set left absent m.over k others e (Passed f set before after (bit_or names more)) (rw passing_member (marked_append here d)) }

      -- one without calls
      pub passing_none : f k ≡ [] → Passing f set before words names others
      passing_none n =
          record { over = over_next P set left absent m.over k others e P (rw (passing_member, n, append-nil (joined (λ k. cond (bit_at set k) (f k) []) k)) here) }
