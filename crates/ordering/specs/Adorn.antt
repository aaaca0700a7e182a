-- Adorning a clause. Document 01: "variables at bound head positions start as bound; a variable at two head positions is bound if either is.
-- Subgoals are taken in order. In each, a literal or a bound variable gives a bound position, anything else a free one. After the whole subgoal
-- all its variables become bound". Document 02, W9, of a negated subgoal: "When it is placed, every variable in it must be bound already and its pattern must fit
-- the predicate's constraint"; "It binds nothing". Nothing above this crate looks inside `ready` and `after`. Every definition computes. Assumes nothing.
use Rattle.std.specs.Prelude.{Bool, true, false, not, cond, ◌&&◌, ◌||◌, List, [], ◌∷◌, ℕ, ◌+◌, ◌*◌, ◌/◌, ◌%◌, eqb, ltb, get_or, set, replicate}
use Rattle.masks.specs.Lists.{all, has}
use Rattle.masks.specs.Constraint.{admits}
use Rattle.book.specs.Book.{Call}
use Rattle.book.specs.Table.{Table, entry}

-- "0 to 15 is a variable of that clause or query": which of the 16 are bound
abbrev pub variables : ℕ
variables = 16

abbrev pub Bound : Type 0
Bound = List Bool

-- "A query has no head and starts with nothing bound."
unfoldable pub nothing : Bound
nothing = replicate variables false

-- ---- the bound positions of a call

-- "255 a literal"
abbrev pub literal : ℕ
literal = 255

-- "a literal or a bound variable gives a bound position, anything else a free one"; "A wildcard is always free"
unfoldable pub is_bound : Bound → ℕ → Bool
is_bound b v = cond (eqb v literal) true (cond (ltb v variables) (get_or b v false) false)

abbrev pub bit : Bool → ℕ
bit true = 1
bit false = 0

-- "A binding pattern is a mask: bit set for bound": bit i is set where argument i is bound
unfoldable pub pattern_of : Bound → List ℕ → ℕ
pattern_of b [] = 0
pattern_of b (v ∷ vs) = pattern_of b vs * 2 + bit (is_bound b v)

-- ---- what becomes bound

-- a variable is bound from now on; a literal is none, and a wildcard "binds nothing"
unfoldable pub bind_var : Bound → ℕ → Bound
bind_var b v = cond (ltb v variables) (set b v true) b

unfoldable pub bind_all : Bound → List ℕ → Bound
bind_all b [] = b
bind_all b (v ∷ vs) = bind_all (bind_var b v) vs

-- "variables at bound head positions start as bound": bit i of the pattern is that of position i
unfoldable pub bind_head : Bound → List ℕ → ℕ → Bound
bind_head b [] a = b
bind_head b (v ∷ vs) a = bind_head (cond (eqb (a % 2) 1) (bind_var b v) b) vs (a / 2)

unfoldable pub head_bound : List ℕ → ℕ → Bound
head_bound head a = bind_head nothing head a

-- ---- a subgoal in its turn

-- v is a variable that it binds: it stands in it, and W9: "It binds nothing, so for W3 a head variable found only in `NG` counts as absent"; a wildcard is none
unfoldable pub binds : Call → ℕ → Bool
binds s v = not s.negated && (ltb v variables && has s.args v)

-- W9, of a negated subgoal: "every variable in it must be bound already". Its other arguments are literals, which are bound: "254 in an `NG` is 4"
unfoldable pub known : Bound → Call → Bool
known b s = not s.negated || all (is_bound b) s.args

-- its pattern fits the constraint of its predicate, and W9's rule holds
unfoldable pub ready : Table → Bound → Call → Bool
ready T b s = admits (entry T s.pred) (pattern_of b s.args) && known b s

-- "After the whole subgoal all its variables become bound"; W9: "It binds nothing"
unfoldable pub after : Bound → Call → Bound
after b s = cond s.negated b (bind_all b s.args)
