-- Document 01's bench examples K4 and K10, by computing. Assumes nothing.
use mathlib.Core.Path.{◌≡◌, refl}
use mathlib.Core.Bool.{false}
use mathlib.Core.List.{List, [], ◌∷◌}
use mathlib.Core.Option.{some}
use Prim.Native.Nat.{ℕ}
use Rattle.masks.specs.Lists.{below}
use Rattle.book.specs.Book.{Call, Clause}
use Rattle.book.specs.Table.{Table}
use Rattle.ordering.specs.Adorn.{head_bound}
use Rattle.ordering.specs.Good.{first_good, good_clause}
use Rattle.ordering.proofs.Laws.Greedy.{greedy_of}
use Rattle.ordering.proofs.Laws.Greedy as rule
use Rattle.ordering.proofs.Laws.Brought.{computing}
use Rattle.ordering.proofs.Laws.Good.{greedy}

compute : Unit {0}
unfolding computing greedy_of rule.greedy
compute = tt

-- a subgoal that is not negated
abbrev goal : ℕ → List ℕ → Call
goal p args = record { negated = false; pred = p; args = args }

-- "r(X,X) :- f(X), f {1}: masks 1 2"
abbrev k10 : Clause
k10 = record { head = record { pred = 1; args = 0 ∷ 0 ∷ [] }; body = goal 0 (0 ∷ []) ∷ [] }

pub k10_good : below (good_clause ((1 ∷ []) ∷ []) k10) 4 ≡ 1 ∷ 2 ∷ 3 ∷ []
unfolding compute
k10_good = refl

-- "r(Y,Z) :- f(X), g(X,Y,Z), h(Z), i(X), j(X,W), with f {1}, g {1,2} or {1,3}, h {1}": X Y Z W are 0 1 2 3
abbrev k4 : Clause
k4 = record {
  head = record { pred = 5; args = 1 ∷ 2 ∷ [] };
  body = goal 0 (0 ∷ []) ∷ goal 1 (0 ∷ 1 ∷ 2 ∷ []) ∷ goal 2 (2 ∷ [])
      ∷ goal 3 (0 ∷ []) ∷ goal 4 (0 ∷ 3 ∷ []) ∷ [];
}

abbrev t4 : Table
t4 = (1 ∷ []) ∷ (3 ∷ 5 ∷ []) ∷ (1 ∷ []) ∷ (0 ∷ []) ∷ (0 ∷ []) ∷ []

-- "under 1 places 3 0 1 2 4, under 2 places 2 3 0 1 4"
pub k4_first_1 : first_good t4 k4.body (head_bound k4.head.args 1) ≡ some (3 ∷ 0 ∷ 1 ∷ 2 ∷ 4 ∷ [])
unfolding compute
k4_first_1 = refl

pub k4_first_2 : first_good t4 k4.body (head_bound k4.head.args 2) ≡ some (2 ∷ 3 ∷ 0 ∷ 1 ∷ 4 ∷ [])
unfolding compute
k4_first_2 = refl

-- and as the greedy rule finds them
pub k4_greedy_1 : greedy t4 k4.body (head_bound k4.head.args 1) ≡ some (3 ∷ 0 ∷ 1 ∷ 2 ∷ 4 ∷ [])
unfolding compute
k4_greedy_1 = refl

pub k4_greedy_2 : greedy t4 k4.body (head_bound k4.head.args 2) ≡ some (2 ∷ 3 ∷ 0 ∷ 1 ∷ 4 ∷ [])
unfolding compute
k4_greedy_2 = refl
