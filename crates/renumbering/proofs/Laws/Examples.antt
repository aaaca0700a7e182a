-- The definitions, computed, each by itself. Assumes nothing.
use mathlib.Core.Path.{◌≡◌, refl}
use mathlib.Core.List.{List, [], ◌∷◌}
use Prim.Native.Nat.{ℕ}
use lib.Dec.{eqb}
use Rattle.masks.specs.Lists.{how_many}
use Rattle.choices.specs.Plan.{Row}
use Rattle.renumbering.specs.Left.{moved_down, rows_left}

unfoldable pub compute_left : Unit {0}
unfolding how_many moved_down rows_left
compute_left = tt

-- "clause numbers moved down past the dropped clauses": clause 1 is dropped
pub one_gone : moved_down (eqb 1) 0 ∷ moved_down (eqb 1) 2 ∷ moved_down (eqb 1) 3 ∷ [] ≡ 0 ∷ 1 ∷ 2 ∷ []
unfolding compute_left
one_gone = refl

-- the order of clause k under pattern a
abbrev under : ℕ → ℕ → List ℕ → Row
under k a σ = record { clause· = k; pattern = a; places = σ }

-- "without the chosen predicates' CO records": of rows of the clauses 2, 1 and 0 those of 2 and 0
pub rows_left_lem : rows_left (eqb 1) (under 2 3 (1 ∷ 0 ∷ []) ∷ under 1 1 [] ∷ under 0 0 [] ∷ []) ≡ under 1 3 (1 ∷ 0 ∷ []) ∷ under 0 0 [] ∷ []
unfolding compute_left
rows_left_lem = refl
