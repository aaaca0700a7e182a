-- Numbers moved down past those that are gone, and what is left of the rows of a plan. Document 02, W10: "the full plan without the chosen predicates' `CO`
-- records, clause numbers moved down past the dropped clauses". Every definition computes. Assumes nothing.
use Rattle.std.specs.Prelude.{Bool, cond, List, [], ◌∷◌, ℕ, ◌-◌}
use Rattle.masks.specs.Lists.{how_many}
use Rattle.choices.specs.Plan.{Row}

-- a number, less by as many as are gone before it
unfoldable pub moved_down : (ℕ → Bool) → ℕ → ℕ
moved_down gone k = k - how_many gone k

-- a row under its new number
abbrev pub new_row : (ℕ → Bool) → Row → Row
new_row gone r = record { clause· = moved_down gone r.clause·; pattern = r.pattern; places = r.places }

-- the rows of the clauses that are not gone
unfoldable pub rows_left : (ℕ → Bool) → List Row → List Row
rows_left gone [] = []
rows_left gone (r ∷ rs) = cond (gone r.clause·) (rows_left gone rs) (new_row gone r ∷ rows_left gone rs)
