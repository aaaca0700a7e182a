-- The definitions, computed, each by itself; a book closed; and one whose plan is another, closed over a set that is not self-contained. Assumes nothing.
use mathlib.Core.Path.{◌≡◌, refl}
use mathlib.Core.Bool.{Bool, true, false}
use mathlib.Core.List.{List, [], ◌∷◌}
use Prim.Native.Nat.{ℕ}
use Rattle.masks.specs.Outcome.{done}
use Rattle.masks.specs.Set.{bit_at}
use Rattle.book.specs.Book.{Call, Clause}
use Rattle.tables.proofs.Laws.Examples.{chain, several}
use Rattle.choices.specs.Plan.{planned}
use Rattle.choices.proofs.Laws.Examples.{compute_plan}
use Rattle.closing.specs.Close.{close}
use Rattle.closing.proofs.Laws.Examples.{compute_close}
use Rattle.renumbering.proofs.Laws.Examples.{compute_left}
use Rattle.depot.specs.Depot.{calls_inside, self_contained, dropped, plan_left, image_left}

unfoldable pub compute_depot : Unit {0}
unfolding compute_plan compute_close compute_left calls_inside self_contained dropped plan_left image_left
compute_depot = tt

-- ---- the condition: of a(X) :- b(X) and b(X) :- m(X), where a is predicate 0, b 1 and m 2

-- a alone calls b, which has clauses and is not chosen
pub outside_a : self_contained (bit_at 1) chain.clauses ≡ false
unfolding compute_depot
outside_a = refl

-- b calls m, which has none, and a and b call one another or m
pub inside_b : self_contained (bit_at 2) chain.clauses ≡ true
unfolding compute_depot
inside_b = refl

pub inside_both : self_contained (bit_at 3) chain.clauses ≡ true
unfolding compute_depot
inside_both = refl

-- W9's among them: a(X) :- m(X), not b(X) and b(X) :- m(X)
abbrev negating : List Clause
negating =
    record { head = record { pred = 0; args = 0 ∷ [] }; body = call false 2 ∷ call true 1 ∷ [] }
    ∷ record { head = record { pred = 1; args = 0 ∷ [] }; body = call false 2 ∷ [] }
    ∷ []
  where
    call : Bool → ℕ → Call
    call negated p = record { negated = negated; pred = p; args = 0 ∷ [] }

pub negated_calls : self_contained (bit_at 1) negating ≡ false
unfolding compute_depot
negated_calls = refl

-- ---- a book with clauses of b, a and a, in this turn, closed over b: clause 0 is dropped, and the others are 0 and 1 then

abbrev several_plan : List ℕ
several_plan =
    81 ∷ 79 ∷ 2 ∷ 0 ∷ 1 ∷ 67 ∷ 79 ∷ 0 ∷ 0 ∷ 1 ∷ 0 ∷ 67 ∷ 79 ∷ 1 ∷ 0 ∷ 1 ∷ 0 ∷ 67 ∷ 79 ∷ 0 ∷ 1 ∷ 1 ∷ 0 ∷ 67 ∷ 79 ∷ 1 ∷ 1 ∷ 1 ∷ 0 ∷ []

pub several_left : image_left (bit_at 2) several ≡ several_plan
unfolding compute_depot
several_left = refl

pub several_closed : planned (close 2 several) ≡ done 0 several_plan
unfolding compute_depot
several_closed = refl

-- ---- the condition is needed: a(X) :- b(X) and b(X) :- m(X), closed over a. The closed book does not reach b, and the full plan has a row of b

pub chain_left : image_left (bit_at 1) chain ≡ 81 ∷ 79 ∷ 1 ∷ 0 ∷ 67 ∷ 79 ∷ 0 ∷ 1 ∷ 1 ∷ 0 ∷ []
unfolding compute_depot
chain_left = refl

pub chain_closed : planned (close 1 chain) ≡ done 0 (81 ∷ 79 ∷ 1 ∷ 0 ∷ [])
unfolding compute_depot
chain_closed = refl
