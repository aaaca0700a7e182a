-- The patterns reached, worked out: marks, and more marks until no call is new. Every definition computes. Assumes nothing.
use Rattle.std.specs.Prelude.{Bool, false, cond, ◌||◌, List, [], ◌++◌, ℕ, zero, suc, ◌*◌, length, get_or}
use Rattle.masks.specs.Limits.{all_patterns}
use Rattle.masks.specs.Lists.{all, values, joined}
use Rattle.book.specs.Book.{Book}
use Rattle.ordering.specs.Asks.{Asked, called}
use Rattle.choices.specs.Choice.{clause, Choice, query_calls, clause_calls}

-- a mark for each pattern of each predicate
abbrev pub Marks : Type 0
Marks = List (List Bool)

abbrev pub marked : Marks → ℕ → ℕ → Bool
marked M p a = get_or (get_or M p []) a false

-- the marks of n predicates that f tells
unfoldable pub marks_of : (ℕ → ℕ → Bool) → ℕ → Marks
marks_of f n = values (λ p. values (f p) all_patterns) n

-- "those of the query's subgoals, and those of the subgoals of every clause of a reached predicate under a reached pattern", where M is reached
unfoldable pub next_calls : Book → Choice → Marks → List Asked
next_calls B χ M =
    query_calls B χ
    ++ joined (λ k. joined (λ a. cond (marked M (clause B k).head.pred a) (clause_calls B χ k a) []) all_patterns) (length B.clauses)

-- every call is marked
unfoldable pub all_marked : Marks → List Asked → Bool
all_marked M calls = all (λ (x : Asked). marked M x.pred x.pattern) calls

-- the marks, and those of the calls
unfoldable pub with_calls : Book → Marks → List Asked → Marks
with_calls B M calls = marks_of (λ q b. marked M q b || called q b calls) (length B.arities)

-- from M on until no call is new, in d steps at most
unfoldable pub grown : Book → Choice → Marks → ℕ → Marks
grown B χ M zero = M
grown B χ M (suc d) =
    let calls : List Asked = next_calls B χ M in
    let more : Marks = grown B χ (with_calls B M calls) d in
    cond (all_marked M calls) M more

-- from nothing; a step that goes on marks a pattern, and there are no more patterns than this
unfoldable pub reached : Book → Choice → Marks
reached B χ = grown B χ (marks_of (λ q b. false) (length B.arities)) (length B.arities * all_patterns)
