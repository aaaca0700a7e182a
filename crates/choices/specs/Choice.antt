-- Choices of orders. Document 01, "The plan": what a choice is, what it reaches, and when it makes the book well-moded. Assumes nothing.
use Rattle.std.specs.Prelude.{◌≡◌, true, List, ℕ, ◌<◌, length, get_or}
use Rattle.masks.specs.Constraint.{admits}
use Rattle.book.specs.Book.{Clause, no_clause, Book}
use Rattle.ordering.specs.Adorn.{nothing, head_bound}
use Rattle.ordering.specs.Orders.{Rearranges}
use Rattle.ordering.specs.Good.{known_from, brought}
use Rattle.ordering.specs.Asks.{Asked, asks, called}
use Rattle.tables.specs.Table.{declared}

-- "clauses are numbered from 0" (past the last: a clause that says nothing)
unfoldable pub clause : Book → ℕ → Clause
clause B k = get_or B.clauses k no_clause

-- ---- "A choice gives the query an order, and each clause one under each head pattern."

pub record Choice : Type 0 where
  pub for_query : List ℕ
  -- of clause k under head pattern a
  pub for_clause : (k a : ℕ) → List ℕ

-- an order of the subgoals that there are, each once
pub record IsChoice (B : Book) (χ : Choice) : Type 0 where
  pub query· : Rearranges (length B.query) χ.for_query
  pub clause· : (k a : ℕ) → k < length B.clauses → Rearranges (length (clause B k).body) (χ.for_clause k a)

-- ---- "Patterns reached: those of the query's subgoals, and those of the subgoals of every clause of a reached predicate under a reached pattern."

-- the calls of the query: "A query has no head and starts with nothing bound."
unfoldable pub query_calls : Book → Choice → List Asked
query_calls B χ = asks B.query nothing χ.for_query

-- the calls of clause k under head pattern a
unfoldable pub clause_calls : Book → Choice → ℕ → ℕ → List Asked
clause_calls B χ k a = asks (clause B k).body (head_bound (clause B k).head.args a) (χ.for_clause k a)

-- pattern b of predicate q is reached
pub data Reaches (B : Book) (χ : Choice) : ℕ → ℕ → Type 0 where
  by_query : {q b : ℕ} → called q b (query_calls B χ) ≡ true → Reaches B χ q b
  by_clause : {a q b : ℕ} (k : ℕ) → k < length B.clauses → Reaches B χ (clause B k).head.pred a → called q b (clause_calls B χ k a) ≡ true
      → Reaches B χ q b

-- ---- "A choice makes the book well-moded (definition 3.14) when every reached pattern of an outside predicate fits its constraint."; W6: "has every reached
-- pattern fit its declaration, for defined predicates as well"; W3: "a well-moded choice needs this of every reached clause", that each head variable in
-- none of its subgoals is bound by the pattern reached; W9: "a well-moded choice needs the first of every `NG` in the query and in every reached clause under a
-- reached pattern", that every variable in it is bound already

pub record WellModed (B : Book) (χ : Choice) : Type 0 where
  pub fits : (p a : ℕ) → Reaches B χ p a → admits (declared B.modes p) a ≡ true
  pub brings : (k a : ℕ) → k < length B.clauses → Reaches B χ (clause B k).head.pred a
      → brought (clause B k) (head_bound (clause B k).head.args a) ≡ true
  pub knows_query : known_from B.query nothing χ.for_query ≡ true
  pub knows : (k a : ℕ) → k < length B.clauses → Reaches B χ (clause B k).head.pred a
      → known_from (clause B k).body (head_bound (clause B k).head.args a) (χ.for_clause k a) ≡ true

-- some choice does
abbrev pub Orderable : Book → Type 0
Orderable B = (χ : Choice) × IsChoice B χ × WellModed B χ
