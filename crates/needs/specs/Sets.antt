-- Sets of predicates and of clauses, held in words: a number is in the set where its bit is set. Every definition computes. Assumes nothing.
use Rattle.std.specs.Prelude.{Bool, true, false, cond, ◌&&◌, ◌||◌, List, ℕ, zero, suc, ◌<◌, eqb, get_or}
use Rattle.masks.specs.Set.{bit_at, Holds}
use Rattle.book.specs.Limits.{max_predicates}
use Rattle.book.specs.Book.{Clause}
use Rattle.book.specs.Held.{clauses_of}
use Rattle.tables.specs.Calls.{calls, touched}

-- f holds of every member below n
abbrev pub each_in : ℕ → (ℕ → Bool) → ℕ → Bool
each_in set f zero = true
each_in set f (suc n) = each_in set f n && cond (bit_at set n) (f n) true

-- f holds of some member below n
abbrev pub some_in : ℕ → (ℕ → Bool) → ℕ → Bool
some_in set f zero = false
some_in set f (suc n) = some_in set f n || cond (bit_at set n) (f n) false

-- a set of predicates for each predicate: of the first n clauses' those that call it
pub record Calling (rules : List ℕ) (n : ℕ) (callers : List ℕ) : Type 0 where
  pub each : (q : ℕ) → q < max_predicates → Holds (get_or callers q 0) (touched (eqb q) (clauses_of rules n))

-- one clause more: its head's predicate calls those of its subgoals
abbrev pub Added : Clause → List ℕ → List ℕ → Type 0
Added c before after =
    (q : ℕ) → q < max_predicates → Holds (get_or after q 0) (λ p. bit_at (get_or before q 0) p || (calls (eqb q) c && eqb c.head.pred p))
