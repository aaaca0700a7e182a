-- Who calls whom: what a round has to look at again. Every definition computes. Assumes nothing.
use Rattle.std.specs.Prelude.{Bool, List, ℕ}
use Rattle.masks.specs.Lists.{any}
use Rattle.book.specs.Book.{Clause}
use Rattle.tables.specs.Table.{own}

-- a clause calls a predicate that passes x
unfoldable pub calls : (ℕ → Bool) → Clause → Bool
calls x c = any (λ s. x s.pred) c.body

-- a clause of p does
unfoldable pub touched : (ℕ → Bool) → List Clause → ℕ → Bool
touched x cs p = any (calls x) (own cs p)
