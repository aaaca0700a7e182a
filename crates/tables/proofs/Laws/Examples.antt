-- Small books, their rounds and constraints as rows of one table, and an image, computed from the definitions; the crates above go on with them. Document
-- 01's examples K1 to K12, over bytes, are in the crate `demands`. Assumes nothing.
use mathlib.Core.Path.{◌≡◌, refl}
use mathlib.Core.Bool.{false}
use mathlib.Core.List.{List, [], ◌∷◌}
use Prim.Native.Nat.{ℕ}
use Rattle.masks.specs.Lists.{how_many}
use Rattle.masks.specs.Constraint.{drops, least, written, minimise}
use Rattle.book.specs.Book.{Call, Mode, Clause, Book}
use Rattle.book.specs.Table.{Table}
use Rattle.book.proofs.Laws.Examples.{k1_book}
use Rattle.ordering.proofs.Laws.Brought.{computing}
use Rattle.tables.specs.Table.{mode_of, first_needs, start, own, defined, good, gets, next, step, table, settled, rounds_bound, seek, rounds, final}
use Rattle.tables.specs.Image.{image}

unfoldable pub compute : Unit {0}
unfolding computing drops least written minimise k1_book mode_of first_needs start own defined good gets next step table settled rounds_bound seek rounds final
compute = tt

-- ---- books

abbrev call : ℕ → List ℕ → Call
call p args = record { negated = false; pred = p; args = args }

abbrev needs : ℕ → List ℕ → Mode
needs p masks = record { pred = p; masks = masks }

abbrev clause : Call → List Call → Clause
clause head body = record { head = record { pred = head.pred; args = head.args }; body = body }

abbrev rules : List ℕ → List Mode → List Clause → List Call → Book
rules arities modes clauses query = record { arities = arities; modes = modes; clauses = clauses; query = query }

-- f, g need {1,2} and {1}: r(X,Y) :- f(X,Y), g(X,Y). The query r(255,X), r(255,255)
abbrev pub choosy : Book
choosy =
    rules (2 ∷ 2 ∷ 2 ∷ []) (needs 1 (3 ∷ []) ∷ needs 2 (1 ∷ []) ∷ [])
    (clause (call 0 (0 ∷ 1 ∷ [])) (call 1 (0 ∷ 1 ∷ []) ∷ call 2 (0 ∷ 1 ∷ []) ∷ []) ∷ [])
    (call 0 (255 ∷ 0 ∷ []) ∷ call 0 (255 ∷ 255 ∷ []) ∷ [])

-- f, g need {1}: r(X) :- g(Y), f(X), which is ill after a round. The query r(255)
abbrev pub stuck : Book
stuck =
    rules (1 ∷ 1 ∷ 1 ∷ []) (needs 1 (1 ∷ []) ∷ needs 2 (1 ∷ []) ∷ [])
    (clause (call 0 (0 ∷ [])) (call 1 (1 ∷ []) ∷ call 2 (0 ∷ []) ∷ []) ∷ [])
    (call 0 (255 ∷ []) ∷ [])

-- m needs {1}: a(X) :- b(X) and b(X) :- m(X). The query a(255)
abbrev pub chain : Book
chain =
    rules (1 ∷ 1 ∷ 1 ∷ []) (needs 2 (1 ∷ []) ∷ [])
    (clause (call 0 (0 ∷ [])) (call 1 (0 ∷ []) ∷ []) ∷ clause (call 1 (0 ∷ [])) (call 2 (0 ∷ []) ∷ []) ∷ [])
    (call 0 (255 ∷ []) ∷ [])

-- m needs {1}: p(X) :- p(X), m(X). The query p(X)
abbrev pub recursive : Book
recursive =
    rules (1 ∷ 1 ∷ []) (needs 1 (1 ∷ []) ∷ [])
    (clause (call 0 (0 ∷ [])) (call 0 (0 ∷ []) ∷ call 1 (0 ∷ []) ∷ []) ∷ [])
    (call 0 (0 ∷ []) ∷ [])

-- m has MO and no alternative: a(X) :- m(X), and b(X) :- f(X). The query b(X)
abbrev pub ill : Book
ill =
    rules (1 ∷ 1 ∷ 1 ∷ 1 ∷ []) (needs 1 [] ∷ [])
    (clause (call 0 (0 ∷ [])) (call 1 (0 ∷ []) ∷ []) ∷ clause (call 2 (0 ∷ [])) (call 3 (0 ∷ []) ∷ []) ∷ [])
    (call 2 (0 ∷ []) ∷ [])

-- f and g need {1}: r(X,Y) :- f(X), h(Y) and r(X,Y) :- g(Y), h(X). No query
abbrev both : Book
both =
    rules (2 ∷ 1 ∷ 1 ∷ 1 ∷ []) (needs 1 (1 ∷ []) ∷ needs 2 (1 ∷ []) ∷ [])
    (clause (call 0 (0 ∷ 1 ∷ [])) (call 1 (0 ∷ []) ∷ call 3 (1 ∷ []) ∷ [])
    ∷ clause (call 0 (0 ∷ 1 ∷ [])) (call 2 (1 ∷ []) ∷ call 3 (0 ∷ []) ∷ [])
    ∷ [])
    []

-- W3's clause seen(H,T) :- head(H). No query
abbrev seen : Book
seen = rules (1 ∷ 2 ∷ []) [] (clause (call 1 (0 ∷ 1 ∷ [])) (call 0 (0 ∷ []) ∷ []) ∷ []) []

-- W3's fact p(X). The query p(X)
abbrev pub fact : Book
fact = rules (1 ∷ []) [] (clause (call 0 (0 ∷ [])) [] ∷ []) (call 0 (0 ∷ []) ∷ [])

-- W6: m and p need {1}, and p(X,Y) :- m(Y), h(X). No query
abbrev pub joined : Book
joined =
    rules (2 ∷ 1 ∷ 1 ∷ []) (needs 0 (1 ∷ []) ∷ needs 1 (1 ∷ []) ∷ [])
    (clause (call 0 (0 ∷ 1 ∷ [])) (call 1 (1 ∷ []) ∷ call 2 (0 ∷ []) ∷ []) ∷ [])
    []

-- p needs {1} itself, and p(X) :- q(X); r(X) :- p(X), where r is predicate 0 and p predicate 1. The query r(X)
abbrev pub strict : Book
strict =
    rules (1 ∷ 1 ∷ 1 ∷ []) (needs 1 (1 ∷ []) ∷ [])
    (clause (call 0 (0 ∷ [])) (call 1 (0 ∷ []) ∷ []) ∷ clause (call 1 (0 ∷ [])) (call 2 (0 ∷ []) ∷ []) ∷ [])
    (call 0 (0 ∷ []) ∷ [])

-- p has MO and no alternative, and a fact. No query
abbrev barred : Book
barred = rules (1 ∷ []) (needs 0 [] ∷ []) (clause (call 0 (255 ∷ [])) [] ∷ []) []

-- W5: m and s need {1}, and p(X) :- m(X), p(X) :- p(Z), s(Z,X), where p is predicate 0; a round takes each of its two patterns. No query
abbrev counter : Book
counter =
    rules (1 ∷ 1 ∷ 2 ∷ []) (needs 1 (1 ∷ []) ∷ needs 2 (1 ∷ []) ∷ [])
    (clause (call 0 (0 ∷ [])) (call 1 (0 ∷ []) ∷ []) ∷ clause (call 0 (0 ∷ [])) (call 0 (15 ∷ []) ∷ call 2 (15 ∷ 0 ∷ []) ∷ []) ∷ [])
    []

-- b(X) :- m(X), then a(X) :- b(X) and a(X) :- m(X), where a is predicate 0 and b predicate 1. The query a(X), a(X)
abbrev pub several : Book
several =
    rules (1 ∷ 1 ∷ 1 ∷ []) []
    (clause (call 1 (0 ∷ [])) (call 2 (0 ∷ []) ∷ [])
    ∷ clause (call 0 (0 ∷ [])) (call 1 (0 ∷ []) ∷ [])
    ∷ clause (call 0 (0 ∷ [])) (call 2 (0 ∷ []) ∷ [])
    ∷ [])
    (call 0 (0 ∷ []) ∷ call 0 (0 ∷ []) ∷ [])

-- m needs {1}. The query m(254), which nothing can order
abbrev pub wild : Book
wild = rules (1 ∷ []) (needs 0 (1 ∷ []) ∷ []) [] (call 0 (254 ∷ []) ∷ [])

-- ---- the table: of each book, its rounds and its final constraints

record Row : Type 0 where
  book : Book
  rounds : ℕ
  needs : Table

abbrev Holds : Row → Type 0
Holds r = (rounds r.book ≡ r.rounds) × (final r.book ≡ r.needs)

abbrev EachHolds : List Row → Type 0
EachHolds [] = Unit {0}
EachHolds (r ∷ rs) = Holds r × EachHolds rs

abbrev rows : List Row
rows =
    -- document 01's book of 45 bytes
    record { book = k1_book; rounds = 1; needs = (0 ∷ []) ∷ (1 ∷ []) ∷ (1 ∷ []) ∷ (1 ∷ []) ∷ [] }
    -- it goes on until the table is settled, and does not count the last, idle round
    ∷ record { book = chain; rounds = 2; needs = (1 ∷ []) ∷ (1 ∷ []) ∷ (1 ∷ []) ∷ [] }
    -- it starts from "all others trivial"
    ∷ record { book = recursive; rounds = 0; needs = (0 ∷ []) ∷ (1 ∷ []) ∷ [] }
    -- "One with MO and n = 0 has no alternative: it is ill"
    ∷ record { book = ill; rounds = 1; needs = [] ∷ [] ∷ (0 ∷ []) ∷ (0 ∷ []) ∷ [] }
    -- "A predicate's pattern is good when all its clauses are good under it."
    ∷ record { book = both; rounds = 1; needs = (3 ∷ []) ∷ (1 ∷ []) ∷ (1 ∷ []) ∷ (0 ∷ []) ∷ [] }
    -- W3: "T stays empty unless the caller brought it"
    ∷ record { book = seen; rounds = 1; needs = (0 ∷ []) ∷ (2 ∷ []) ∷ [] }
    -- W3: "The fact p(X) with no body gets mask 1.", in a round
    ∷ record { book = fact; rounds = 1; needs = (1 ∷ []) ∷ [] }
    -- W6: "every round takes the joint of MO and clauses"
    ∷ record { book = joined; rounds = 1; needs = (3 ∷ []) ∷ (1 ∷ []) ∷ (0 ∷ []) ∷ [] }
    -- W6: "table 0 starts from its MO", and no round gives p more
    ∷ record { book = strict; rounds = 1; needs = (1 ∷ []) ∷ (1 ∷ []) ∷ (0 ∷ []) ∷ [] }
    -- W6: with no alternative it is ill at once, whatever its clauses
    ∷ record { book = barred; rounds = 0; needs = [] ∷ [] }
    -- W5: as many rounds as p has patterns, since the pattern with all bound can go, too
    ∷ record { book = counter; rounds = 2; needs = [] ∷ (1 ∷ []) ∷ (1 ∷ []) ∷ [] }
    ∷ []

pub rows_hold : EachHolds rows
unfolding compute
rows_hold =
    ((refl, refl), ((refl, refl), ((refl, refl), ((refl, refl), ((refl, refl), ((refl, refl), ((refl, refl), ((refl, refl), ((refl, refl), ((refl, refl), ((refl, refl), tt)))))))))))

-- ---- an image

-- "for each predicate in turn CN, predicate, n, n masks", and W5: "how many patterns each final constraint admits", 2, 2, 1 and 1
pub k1_image : image k1_book ≡ 67 ∷ 78 ∷ 0 ∷ 1 ∷ 0 ∷ 2 ∷ 67 ∷ 78 ∷ 1 ∷ 1 ∷ 1 ∷ 2 ∷ 67 ∷ 78 ∷ 2 ∷ 1 ∷ 1 ∷ 1 ∷ 67 ∷ 78 ∷ 3 ∷ 1 ∷ 1 ∷ 1 ∷ []
unfolding compute image how_many
k1_image = refl
