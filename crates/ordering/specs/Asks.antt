-- The calls that a body makes, each with its pattern. Document 01: "Subgoals are taken in order." Every definition computes. Assumes nothing.
use Rattle.std.specs.Prelude.{Bool, ◌&&◌, List, [], ◌∷◌, map, ℕ, eqb}
use Rattle.masks.specs.Lists.{any}
use Rattle.book.specs.Book.{Call}
use Rattle.ordering.specs.Adorn.{Bound, pattern_of}
use Rattle.ordering.specs.Good.{at, after_at}

-- a predicate, called under a pattern
pub record Asked : Type 0 where
  pub pred : ℕ
  pub pattern : ℕ

-- the subgoals of a body in an order, from what is bound on: each under the pattern that it has in its turn
unfoldable pub asks : List Call → Bound → List ℕ → List Asked
asks body b [] = []
asks body b (p ∷ σ) = record { pred = (at body p).pred; pattern = pattern_of b (at body p).args } ∷ asks body (after_at body b p) σ

-- predicate q is called under pattern a
abbrev pub called : ℕ → ℕ → List Asked → Bool
called q a calls = any (λ (x : Asked). eqb x.pred q && eqb x.pattern a) calls

-- the patterns that the subgoals have in their turn
abbrev pub patterns_in : List Call → Bound → List ℕ → List ℕ
patterns_in body b σ = map (λ (x : Asked). x.pattern) (asks body b σ)
