-- Document 01, "Numbers": "At most .. arity 6, 20 alternatives." Assumes nothing.
use Rattle.std.specs.Prelude.{ℕ}

-- the positions of a predicate
abbrev pub max_arity : ℕ
max_arity = 6

-- the masks of a constraint
abbrev pub max_masks : ℕ
max_masks = 20

-- the patterns of six positions, 2 ^ 6: every mask is below this
abbrev pub all_patterns : ℕ
all_patterns = 64
