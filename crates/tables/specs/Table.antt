-- The analysis. Document 01: "The analysis goes in rounds over the whole table (definition 5.4)."; document 02's W6: "A predicate may have both MO and
-- clauses: table 0 starts from its MO, and every round takes the joint of MO and clauses." Every definition computes. Assumes nothing.
use Rattle.std.specs.Prelude.{Bool, true, false, cond, ◌&&◌, List, [], ◌∷◌, ℕ, zero, suc, ◌+◌, ◌^◌, eqb, length, get_or}
use Rattle.std.proofs.Math.Option.{Option, none, some}
use Rattle.masks.specs.Lists.{any, all, values}
use Rattle.masks.specs.Constraint.{admits, trivial, written, minimise, same_masks}
use Rattle.book.specs.Book.{Mode, Clause, Book}
use Rattle.book.specs.Table.{Table, entry}
use Rattle.ordering.specs.Good.{good_clause}

-- ---- what a book itself asks of a predicate, with clauses or without

-- the alternatives of p, where it has MO
unfoldable pub mode_of : List Mode → ℕ → Option (List ℕ)
mode_of [] p = none
mode_of (m ∷ ms) p = cond (eqb m.pred p) (some m.masks) (mode_of ms p)

-- "An outside predicate with no MO asks for nothing: it is trivial. One with MO and n = 0 has no alternative: it is ill"
abbrev pub asked : Option (List ℕ) → List ℕ
asked none = trivial
asked (some masks) = masks

-- what a book declares of p: its MO as given; without one, that it asks for nothing
abbrev pub declared : List Mode → ℕ → List ℕ
declared ms p = asked (mode_of ms p)

-- ---- "Table 0: each MO as given and minimised, all others trivial."

unfoldable pub first_needs : List Mode → ℕ → Table
first_needs ms n = values (λ p. minimise (declared ms p)) n

unfoldable pub start : Book → Table
start B = first_needs B.modes (length B.arities)

-- ---- "Table k+1: each predicate with clauses gets exactly the patterns good under table k, the rest keep theirs."

-- the clauses of p
unfoldable pub own : List Clause → ℕ → List Clause
own [] p = []
own (c ∷ cs) p = cond (eqb c.head.pred p) (c ∷ own cs p) (own cs p)

-- p has clauses
unfoldable pub defined : List Clause → ℕ → Bool
defined cs p = any (λ c. eqb c.head.pred p) cs

-- "A predicate's pattern is good when all its clauses are good under it."
unfoldable pub good : Table → List Clause → ℕ → ℕ → Bool
good T cs p a = all (λ c. good_clause T c a) (own cs p)

-- W6: "every round takes the joint of MO and clauses": a pattern that fits what is declared of p, and is good
unfoldable pub gets : Book → Table → ℕ → ℕ → Bool
gets B T p a = admits (declared B.modes p) a && good T B.clauses p a

-- the constraint of p in the table after T
unfoldable pub next : Book → Table → ℕ → List ℕ
next B T p = cond (defined B.clauses p) (written (gets B T p) (2 ^ get_or B.arities p 0)) (entry T p)

-- "A round reads only the table before it."
unfoldable pub step : Book → Table → Table
step B T = values (next B T) (length B.arities)

unfoldable pub table : Book → ℕ → Table
table B zero = start B
table B (suc k) = step B (table B k)

-- ---- "The rounds reported are the least k at which table k+1 equals table k, and table k is the answer."

abbrev pub same_table : Table → Table → Bool
same_table [] [] = true
same_table [] (d ∷ U) = false
same_table (c ∷ T) [] = false
same_table (c ∷ T) (d ∷ U) = same_masks c d && same_table T U

unfoldable pub settled : Book → ℕ → Bool
settled B k = same_table (table B (suc k)) (table B k)

-- the sum of the first n values of a function
abbrev pub sum_below : (ℕ → ℕ) → ℕ → ℕ
sum_below f zero = 0
sum_below f (suc n) = sum_below f n + f n

-- W5: "the sum, over the predicates with clauses, of 2 to the power of the arity", which is all their patterns: a round that changes something takes one away,
-- so there are no more rounds than this
unfoldable pub rounds_bound : Book → ℕ
rounds_bound B = sum_below (λ p. cond (defined B.clauses p) (2 ^ get_or B.arities p 0) 0) (length B.arities)

-- the first j from k on at which the table is settled, looked for at d places
unfoldable pub seek : Book → ℕ → ℕ → ℕ
seek B k zero = k
seek B k (suc d) = let r : ℕ = seek B (suc k) d in cond (settled B k) k r

unfoldable pub rounds : Book → ℕ
rounds B = seek B 0 (rounds_bound B)

unfoldable pub final : Book → Table
final B = table B (rounds B)
