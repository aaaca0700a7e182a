-- The plan of a closed book. Document 02, W10: "if the chosen predicates' clauses call only chosen predicates or predicates without clauses, the closed
-- book's plan is the full plan without the chosen predicates' `CO` records, clause numbers moved down past the dropped clauses; and reply 7 comes for both
-- or neither." What is left of a plan's rows is in the crate `renumbering`. Every definition computes. Assumes nothing.
use Rattle.std.specs.Prelude.{Bool, not, cond, ◌||◌, List, ◌++◌, ℕ}
use Rattle.masks.specs.Lists.{all}
use Rattle.book.specs.Book.{Clause, Book}
use Rattle.book.specs.Encode.{run}
use Rattle.ordering.specs.Adorn.{nothing}
use Rattle.ordering.specs.Good.{first_good, is_some}
use Rattle.tables.specs.Table.{defined, final}
use Rattle.choices.specs.Choice.{clause}
use Rattle.choices.specs.Plan.{Row, chosen, plan_rows, enc_query, enc_row}
use Rattle.printing.specs.Sheet.{query_line, order_line, refusal_line}
use Rattle.renumbering.specs.Left.{rows_left}

-- ---- "if the chosen predicates' clauses call only chosen predicates or predicates without clauses"

-- a clause does: each of its subgoals, negated ones among them
unfoldable pub calls_inside : (ℕ → Bool) → List Clause → Clause → Bool
calls_inside set cs c = all (λ g. set g.pred || not (defined cs g.pred)) c.body

-- each clause of a chosen predicate does
unfoldable pub self_contained : (ℕ → Bool) → List Clause → Bool
self_contained set cs = all (λ c. not (set c.head.pred) || calls_inside set cs c) cs

-- ---- "the full plan without the chosen predicates' `CO` records, clause numbers moved down past the dropped clauses"

-- clause k is dropped: it is one of a chosen predicate
unfoldable pub dropped : (ℕ → Bool) → Book → ℕ → Bool
dropped set B k = set (clause B k).head.pred

-- the rows of the clauses that stay
unfoldable pub plan_left : (ℕ → Bool) → Book → List Row
plan_left set B = rows_left (dropped set B) (plan_rows B)

-- the query's record as it was, and those rows
unfoldable pub image_left : (ℕ → Bool) → Book → List ℕ
image_left set B = enc_query (chosen B).for_query ++ run enc_row (plan_left set B)

-- ---- the same on a sheet: the `Q` line, and the `O` lines of those rows; or, at 7, `X 7 0`

unfoldable pub order_lines_left : (ℕ → Bool) → Book → List ℕ
order_lines_left set B =
    cond (is_some (first_good (final B) B.query nothing)) (query_line (chosen B).for_query ++ run order_line (plan_left set B)) (refusal_line 7 0)
