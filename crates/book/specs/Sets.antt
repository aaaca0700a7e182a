-- Sets of clauses, held in words: a clause is in the set where its bit is set. Assumes nothing.
use Rattle.std.specs.Prelude.{◌≡◌, Bool, true, ◌&&◌, List, ℕ, ◌<◌, eqb, ltb, get_or}
use Rattle.masks.specs.Lists.{all}
use Rattle.masks.specs.Set.{bit_at, Holds}
use Rattle.book.specs.Limits.{max_predicates, max_clauses}
use Rattle.book.specs.Book.{Call}
use Rattle.book.specs.Format.{allows}
use Rattle.book.specs.Held.{clause_at}
use Rattle.book.specs.declared.range.Range.TheVariants.{Argument}

-- the subgoals call predicates that there can be, with variables, literals and wildcards
unfoldable pub callable : List Call → Bool
callable body = all (λ c. ltb c.pred max_predicates && all (allows Argument) c.args) body

-- the heads and the subgoals of the first n clauses are such calls
pub record Known (rules : List ℕ) (n : ℕ) : Type 0 where
  pub heads : (k : ℕ) → k < n → (clause_at rules k).head.pred < max_predicates
  pub bodies : (k : ℕ) → k < n → callable (clause_at rules k).body ≡ true

-- an array of empty sets
abbrev pub Cleared : List ℕ → Type 0
Cleared words = (p : ℕ) → p < max_predicates → get_or words p 0 ≡ 0

-- a set of clauses for each predicate: of the first n clauses those that are its own
abbrev pub Owns : List ℕ → ℕ → List ℕ → Type 0
Owns rules n own = (p : ℕ) → p < max_predicates → Holds (get_or own p 0) (λ k. ltb k n && eqb (clause_at rules k).head.pred p)

-- every clause of a set can be tried
abbrev pub Callable : List ℕ → ℕ → Type 0
Callable rules own = (k : ℕ) → k < max_clauses → bit_at own k ≡ true → callable (clause_at rules k).body ≡ true
