-- A table: what it is, and how it is held in an array. Assumes nothing.
use Rattle.std.specs.Prelude.{◌≡◌, true, List, [], ℕ, ◌≤◌, ◌<◌, get_or}
use Rattle.masks.specs.Limits.{max_arity, all_patterns}
use Rattle.masks.specs.Lists.{values}
use Rattle.masks.specs.Constraint.{admits, in_range}
use Rattle.masks.specs.Set.{bit_at, members}
use Rattle.masks.specs.Patterns.{EachLane}
use Rattle.book.specs.Limits.{max_predicates}
use Rattle.book.specs.Held.{has_in, masks_in, mode_bytes}

-- the constraint of each predicate, as its masks
abbrev pub Table : Type 0
Table = List (List ℕ)

-- the constraint of a predicate
abbrev pub entry : Table → ℕ → List ℕ
entry T p = get_or T p []

-- a table is held as a word for each predicate: the set of its masks
abbrev pub entry_in : List ℕ → ℕ → List ℕ
entry_in table p = members (get_or table p 0)

-- the constraints of the first n predicates
unfoldable pub table_in : List ℕ → ℕ → Table
table_in table n = values (entry_in table) n

-- words with the patterns that the constraints of a table admit
abbrev pub Admitted : List ℕ → List ℕ → Type 0
Admitted table words = (p : ℕ) → p < max_predicates → EachLane (λ a. bit_at (get_or words p 0) a ≡ admits (entry_in table p) a)

-- a table each of whose sets has all the patterns that it admits, so that a pattern fits just where it is a member
abbrev pub Full : List ℕ → Type 0
Full table = Admitted table table

-- every mask of the modes of a book is one of six positions
abbrev pub LowModes : List ℕ → Type 0
LowModes modes = (p : ℕ) → p < max_predicates → has_in (mode_bytes modes p) ≡ true → in_range all_patterns (masks_in (mode_bytes modes p)) ≡ true

-- the first n arities are those of predicates
abbrev pub LowArities : ℕ → List ℕ → Type 0
LowArities n arities = (p : ℕ) → p < n → get_or arities p 0 ≤ max_arity
