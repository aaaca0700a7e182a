-- Choices, what they reach and plans, computed from the definitions: each by itself. Assumes nothing.
use mathlib.Core.Path.{◌≡◌, refl}
use mathlib.Core.Bool.{true, false, false≢true}
use mathlib.Core.List.{List, [], ◌∷◌, ◌++◌}
use Prim.Native.Nat.{ℕ}
use native.Mathlib.Omega.{arith}
use lib.Dec.{ltb}
use lib.ListN.{length}
use Rattle.masks.specs.Constraint.{joint}
use Rattle.masks.specs.Outcome.{Outcome, refused, done}
use Rattle.book.specs.Encode.{run}
use Rattle.ordering.specs.Asks.{Asked, asks}
use Rattle.book.proofs.Laws.Examples.{k1_book}
use Rattle.tables.proofs.Laws.Examples.{compute, choosy, stuck, chain, ill, several, fact, strict}
use Rattle.choices.specs.Choice.{clause, Choice, query_calls, clause_calls, by_query, by_clause, WellModed}
use Rattle.choices.specs.Reached.{marked, marks_of, next_calls, all_marked, with_calls, grown, reached}
use Rattle.choices.specs.Plan.{Row, first_choice, chosen, rows_for, rows_under, rows_of, plan_rows, enc_query, enc_row, image, planned}

unfoldable pub compute_plan : Unit {0}
unfolding compute joint asks clause query_calls clause_calls marks_of next_calls all_marked with_calls grown reached first_choice chosen rows_for rows_under rows_of plan_rows image planned
compute_plan = tt

-- ---- plans

-- the order of clause k under pattern a
abbrev under : ℕ → ℕ → List ℕ → Row
under k a σ = record { clause· = k; pattern = a; places = σ }

-- the query's order, and the clauses'
abbrev orders : List ℕ → List Row → Outcome
orders σ rows = done 0 (enc_query σ ++ run enc_row rows)

abbrev unorderable : Outcome
unorderable = refused 7 0

-- ---- the definitions, each by itself

-- "QO, n, n places; then .. CO, clause, pattern, n, n places"
pub bytes : orders (1 ∷ 0 ∷ []) (under 0 1 (1 ∷ 0 ∷ []) ∷ []) ≡ done 0 (81 ∷ 79 ∷ 2 ∷ 1 ∷ 0 ∷ 67 ∷ 79 ∷ 0 ∷ 1 ∷ 2 ∷ 1 ∷ 0 ∷ [])
bytes = refl

-- a choice with one order for the query, and one for every clause under every pattern
abbrev along : List ℕ → List ℕ → Choice
along σ τ = record { for_query = σ; for_clause = λ k a. τ }

-- "ascending by predicate and then pattern, for each of its clauses in turn", under the patterns 0 and 1
pub rows_turn : rows_under several (along [] []) (λ p a. ltb a 2)
    ≡ under 1 0 [] ∷ under 2 0 [] ∷ under 1 1 [] ∷ under 2 1 [] ∷ under 0 0 [] ∷ under 0 1 [] ∷ []
unfolding compute_plan
rows_turn = refl

-- "the smallest list of subgoal places (from 0, compared from the left) among the orders good against" a table: the query of `choosy`, its clause under 1 and 3
abbrev first : Choice
first = first_choice ((1 ∷ []) ∷ (3 ∷ []) ∷ (1 ∷ []) ∷ []) choosy

pub first_orders : first.for_query ∷ first.for_clause 0 1 ∷ first.for_clause 0 3 ∷ [] ≡ (0 ∷ 1 ∷ []) ∷ (1 ∷ 0 ∷ []) ∷ (0 ∷ 1 ∷ []) ∷ []
unfolding compute_plan
first_orders = refl

-- "the final table": of document 01's book
pub final_order : (chosen k1_book).for_query ≡ 1 ∷ 0 ∷ []
unfolding compute_plan
final_order = refl

abbrev ask : ℕ → ℕ → Asked
ask p a = record { pred = p; pattern = a }

-- "Patterns reached: those of the query's subgoals": of document 01's book, in the order 1 0
pub query_calls_lem : query_calls k1_book (along (1 ∷ 0 ∷ []) []) ≡ ask 0 0 ∷ ask 2 1 ∷ []
unfolding compute_plan
query_calls_lem = refl

-- "and those of the subgoals of every clause of a reached predicate under a reached pattern": of `chain`, a reached under 1
pub next_calls_lem : next_calls chain (along (0 ∷ []) (0 ∷ [])) ((false ∷ true ∷ []) ∷ []) ≡ ask 0 1 ∷ ask 1 1 ∷ []
unfolding compute_plan
next_calls_lem = refl

-- b of `chain` is reached by way of a
pub goes_on : marked (reached chain (along (0 ∷ []) (0 ∷ []))) 1 1 ≡ true
unfolding compute_plan
goes_on = refl

-- a of `ill` is not reached, and the one row is b's
pub unreached : marked (reached ill (along (0 ∷ []) (0 ∷ []))) 0 0 ≡ false
unfolding compute_plan
unreached = refl

pub one_row : length (rows_of ill (along (0 ∷ []) (0 ∷ []))) ≡ 1
unfolding compute_plan
one_row = refl

-- a refusal's number, else 0
abbrev refusal : Outcome → ℕ
refusal (refused number value) = number
refusal (done rounds bytes) = 0

-- "7: the query of a valid book has no order good against the final table": `stuck`, not `ill`
pub sevens : refusal (planned stuck) ∷ refusal (planned ill) ∷ [] ≡ 7 ∷ 0 ∷ []
unfolding compute_plan
sevens = refl

-- W6: "for defined predicates as well": no order makes `strict` well-moded, whose query reaches p under a pattern that does not fit its MO
pub unfit : WellModed strict (along (0 ∷ []) (0 ∷ [])) → ⊥
unfolding compute_plan
unfit m = false≢true (m.fits 1 0 (by_clause {a = 0} 0 (omega arith) (by_query refl) refl))

-- W3: "a well-moded choice needs this of every reached clause": no order makes `fact` well-moded, whose query brings nothing
pub nothing_brought : WellModed fact (along (0 ∷ []) []) → ⊥
unfolding compute_plan
nothing_brought m = false≢true (m.brings 0 0 (omega arith) (by_query refl))
