-- Good orders and good clauses. Document 01: "A clause is good under a head pattern when some order makes every subgoal's pattern fit the
-- constraint of its predicate." Document 02, W3: "A clause is to be good under a pattern only if each head variable that is in none of its subgoals is
-- bound by that pattern as well", and W9: "a head variable found only in `NG` counts as absent". Every definition computes. Assumes nothing.
use Rattle.std.specs.Prelude.{Bool, true, false, ◌&&◌, ◌||◌, List, ℕ, length, get_or}
use Rattle.std.proofs.Math.Option.{Option, none, some}
use Rattle.masks.specs.Lists.{any, all}
use Rattle.book.specs.Book.{Call, no_call, Clause}
use Rattle.book.specs.Table.{Table}
use Rattle.ordering.specs.Adorn.{Bound, is_bound, head_bound, binds, known, ready, after}
use Rattle.ordering.specs.Turns as turns

-- the subgoal at a place (past the end: a call that says nothing, at a place that no order has)
unfoldable pub at : List Call → ℕ → Call
at body p = get_or body p no_call

abbrev pub ready_at : Table → List Call → Bound → ℕ → Bool
ready_at T body b p = ready T b (at body p)

abbrev pub after_at : List Call → Bound → ℕ → Bound
after_at body b p = after b (at body p)

-- "every subgoal's pattern fits the constraint of its predicate", from what is bound on
abbrev pub good_from : Table → List Call → Bound → List ℕ → Bool
good_from T body b σ = turns.good_from (ready_at T body) (after_at body) b σ

-- W9: "every variable in it must be bound already", of each negated subgoal in its turn
abbrev pub known_from : List Call → Bound → List ℕ → Bool
known_from body b σ = turns.good_from (λ c p. known c (at body p)) (after_at body) b σ

-- what is bound when they have all run
abbrev pub ran : List Call → Bound → List ℕ → Bound
ran body b σ = turns.all_after (after_at body) b σ

-- "the smallest list of subgoal places .. among the orders good against" the table
abbrev pub first_good : Table → List Call → Bound → Option (List ℕ)
first_good T body b = turns.first_good (ready_at T body) (after_at body) b (length body)

abbrev pub is_some : Option (List ℕ) → Bool
is_some none = false
is_some (some σ) = true

-- ---- a clause

-- W3: "each head variable that is in none of its subgoals is bound by that pattern": of the arguments of the head, each is bound from the start, as a
-- literal is, or is a variable that a subgoal binds
unfoldable pub brought : Clause → Bound → Bool
brought c b = all (λ v. is_bound b v || any (λ s. binds s v) c.body) c.head.args

-- every argument of the head is bound when the clause has run in an order: no cell comes back empty
abbrev pub filled : Clause → Bound → List ℕ → Bool
filled c b σ = all (is_bound (ran c.body b σ)) c.head.args

-- "some order makes every subgoal's pattern fit", and W3: ".. as well"
unfoldable pub good_clause : Table → Clause → ℕ → Bool
good_clause T c a =
    let b : Bound = head_bound c.head.args a in
    is_some (first_good T c.body b) && brought c b
