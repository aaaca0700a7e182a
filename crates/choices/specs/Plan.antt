-- The plan of a book, its image, and what planning any bytes comes to. Every definition computes. Assumes nothing.
use Rattle.std.specs.Prelude.{Bool, cond, List, [], ◌∷◌, ◌++◌, ℕ, eqb, length}
use Rattle.std.proofs.Math.Option.{Option, none, some}
use Rattle.masks.specs.Limits.{all_patterns}
use Rattle.masks.specs.Lists.{joined}
use Rattle.masks.specs.Outcome.{Outcome, refused, done}
use Rattle.book.specs.Book.{Book}
use Rattle.book.specs.Answer.{on_book}
use Rattle.book.specs.Encode.{run}
use Rattle.book.specs.Table.{Table}
use Rattle.ordering.specs.Adorn.{nothing, head_bound}
use Rattle.ordering.specs.Orders.{count}
use Rattle.ordering.specs.Good.{first_good, is_some}
use Rattle.tables.specs.Table.{final}
use Rattle.choices.specs.Choice.{clause, Choice}
use Rattle.choices.specs.Reached.{Marks, marked, reached}

-- ---- "the smallest list of subgoal places (from 0, compared from the left) among the orders good against the final table"

-- a choice has an order even where none is good: n subgoals as they stand
abbrev pub or_standing : ℕ → Option (List ℕ) → List ℕ
or_standing n none = count 0 n
or_standing n (some σ) = σ

-- the first good orders against a table
unfoldable pub first_choice : Table → Book → Choice
first_choice T B =
    record {
      for_query = or_standing (length B.query) (first_good T B.query nothing);
      for_clause = λ k a. or_standing (length (clause B k).body) (first_good T (clause B k).body (head_bound (clause B k).head.args a));
    }

unfoldable pub chosen : Book → Choice
chosen B = first_choice (final B) B

-- ---- "for each reached predicate with clauses, ascending by predicate and then pattern, for each of its clauses in turn"

-- the order of a clause under a pattern
pub record Row : Type 0 where
  pub clause· : ℕ
  pub pattern : ℕ
  pub places : List ℕ

-- what a row stands by: its clause's predicate, its pattern, its clause
unfoldable pub row_key : Book → Row → List ℕ
row_key B r = (clause B r.clause·).head.pred ∷ r.pattern ∷ r.clause· ∷ []

-- the clauses of p under pattern a, in turn
unfoldable pub rows_for : Book → Choice → ℕ → ℕ → List Row
rows_for B χ p a =
    joined (λ k. cond (eqb (clause B k).head.pred p) (record { clause· = k; pattern = a; places = χ.for_clause k a } ∷ []) []) (length B.clauses)

-- of the patterns that f tells
unfoldable pub rows_under : Book → Choice → (ℕ → ℕ → Bool) → List Row
rows_under B χ f = joined (λ p. joined (λ a. cond (f p a) (rows_for B χ p a) []) all_patterns) (length B.arities)

-- of those that the choice reaches
unfoldable pub rows_of : Book → Choice → List Row
rows_of B χ = let M : Marks = reached B χ in rows_under B χ (marked M)

unfoldable pub plan_rows : Book → List Row
plan_rows B = rows_of B (chosen B)

-- ---- "The image"

-- "QO, n, n places"
abbrev pub enc_query : List ℕ → List ℕ
enc_query σ = 81 ∷ 79 ∷ length σ ∷ σ

-- "CO, clause, pattern, n, n places"
abbrev pub enc_row : Row → List ℕ
enc_row r = 67 ∷ 79 ∷ r.clause· ∷ r.pattern ∷ length r.places ∷ r.places

unfoldable pub image : Book → List ℕ
image B = enc_query (chosen B).for_query ++ run enc_row (plan_rows B)

-- ---- what planning comes to

-- "7: the query of a valid book has no order good against the final table"
unfoldable pub planned : Book → Outcome
planned B = cond (is_some (first_good (final B) B.query nothing)) (done 0 (image B)) (refused 7 0)

abbrev pub planning : List ℕ → Outcome
planning s = on_book planned s
