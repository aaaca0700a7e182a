-- Every string of bytes judged from the left: document 01, "What a rule book says" and "Replies", with the places of document 02's W2, without the second
-- ground for 6, which W6 takes away, with W9's sixth mark, and with the turns of W1's queries. It is recursion on the bytes that are left, so that a place is
-- said by how many bytes are left from it on; `judge` turns that into an offset, once. Every definition computes. Assumes nothing.
use Rattle.std.specs.Prelude.{◌≡◌, ◌⊎◌, Bool, cond, ◌&&◌, ◌||◌, false, List, [], ◌∷◌, ◌++◌, ℕ, zero, suc, ◌-◌, ◌^◌, ◌≤◌, ◌<◌, eqb, ltb, leb, length, get_or, drop}
use Rattle.masks.specs.Limits.{max_arity, max_masks}
use Rattle.book.specs.Limits.{max_predicates, max_clauses, max_subgoals}
use Rattle.book.specs.Book.{Head, Call, subgoal_of, Mode, Clause, Book}
use Rattle.book.specs.declared.fault.Fault.{Fault}
use Rattle.book.specs.declared.fault.Fault.TheVariants.{PastEnd, NoMark, OutOfTurn, OutOfRange, TooMany, Clash}
use Rattle.book.specs.declared.mark.Mark.{Mark}
use Rattle.book.specs.declared.mark.Mark.TheVariants.{Pr, Mo, Cl, Sg, Ng, Qu, Other, Half, End}
use Rattle.book.specs.declared.mark.Phase.{Phase}
use Rattle.book.specs.declared.mark.Phase.TheVariants.{Predicates, Modes, Clauses, Body, Query, Queries, PageQuery}
use Rattle.book.specs.declared.mark.Turn.{Turn}
use Rattle.book.specs.declared.mark.Turn.TheVariants.{Mine, Over, No}
use Rattle.book.specs.declared.range.Range.{Range}
use Rattle.book.specs.declared.range.Range.TheVariants.{Below, AtMost, Argument, NoWildcard}

-- ---- "Replies": the number of a fault, and its place

-- "No.": the number of the reply
abbrev pub number : Fault → ℕ
number PastEnd = 1
number NoMark = 2
number OutOfTurn = 3
number OutOfRange = 4
number TooMany = 5
number Clash = 6

-- W2: "the offset of the mark's first byte for 2, 3 and 5, of the byte out of range for 4, of the predicate byte for 6. For 1, and for 3 where the book
-- ends without `QU`, it is the book's length.": the place of a fault, of two: the end of the book, and where the fault is found, which is a mark or the
-- end where one is missing, a byte, or a predicate. Here, and in the code that
-- reads, a place is how many bytes are left from it on; in a `FaultAt` it is how many are before it.
abbrev pub place : Fault → ℕ → ℕ → ℕ
place PastEnd end found = end
place NoMark end found = found
place OutOfTurn end found = found
place OutOfRange end found = found
place TooMany end found = found
place Clash end found = found

-- what W2 says of every place, in a book of n bytes: "the book's length" for 1, and for 3 perhaps; else a byte of the book
abbrev pub Stands : Fault → ℕ → ℕ → Type 0
Stands PastEnd n at = at ≡ n
Stands NoMark n at = at < n
Stands OutOfTurn n at = at ≤ n
Stands OutOfRange n at = at < n
Stands TooMany n at = at < n
Stands Clash n at = at < n

-- ---- "each led by a two-byte mark in ASCII"

abbrev pub spelling : Mark → List ℕ
spelling Pr = 80 ∷ 82 ∷ []
spelling Mo = 77 ∷ 79 ∷ []
spelling Cl = 67 ∷ 76 ∷ []
spelling Sg = 83 ∷ 71 ∷ []
spelling Ng = 78 ∷ 71 ∷ []
spelling Qu = 81 ∷ 85 ∷ []
spelling Other = []
spelling Half = []
spelling End = []

-- the bytes begin with the two of m
abbrev pub leads : List ℕ → List ℕ → Bool
leads m [] = false
leads m (x ∷ []) = false
leads m (x ∷ y ∷ s) = eqb x (get_or m 0 0) && eqb y (get_or m 1 0)

-- two bytes that are no mark, one byte, or none
abbrev pub unmarked : List ℕ → Mark
unmarked [] = End
unmarked (x ∷ []) = Half
unmarked (x ∷ y ∷ s) = Other

-- what the bytes begin with
unfoldable pub mark_at : List ℕ → Mark
mark_at s =
    cond (leads (spelling Pr) s) Pr
    (cond (leads (spelling Mo) s) Mo
    (cond (leads (spelling Cl) s) Cl
    (cond (leads (spelling Sg) s) Sg
    (cond (leads (spelling Ng) s) Ng
    (cond (leads (spelling Qu) s) Qu (unmarked s))))))

-- ---- "Turn: all PR, then all MO, then clauses, then one QU; SG only after CL, QU or SG."

-- "both bytes of the mark present (1), known (2)"; the turn of a mark that is, or of the end, stands in a table. W9: "`NG`, has the fields and turn of `SG`"
abbrev pub column : Mark → Turn → Turn → Turn → Turn → Turn → Turn → Turn
column Pr pr mo cl sg qu end = pr
column Mo pr mo cl sg qu end = mo
column Cl pr mo cl sg qu end = cl
column Sg pr mo cl sg qu end = sg
column Ng pr mo cl sg qu end = sg
column Qu pr mo cl sg qu end = qu
column End pr mo cl sg qu end = end
column Other pr mo cl sg qu end = No NoMark
column Half pr mo cl sg qu end = No PastEnd

-- "3: a mark is out of turn, or the book ends without QU"
abbrev pub no : Turn
no = No OutOfTurn

-- for each run of records, what PR, MO, CL, SG, QU and the end of the bytes mean there
abbrev pub turn : Phase → Mark → Turn
turn Predicates m = column m Mine Over Over no Over no
turn Modes m = column m no Mine Over no Over no
turn Clauses m = column m no no Mine no Over no
turn Body m = column m no no Over Mine Over no
turn Query m = column m no no no Mine no Over
-- W1: "a run of `QU` records with their subgoals", as many as there are until the run ends
turn Queries m = column m no no no no Mine Over
turn PageQuery m = column m no no no Mine Over Over

-- a run of subgoals: SG and NG begin its records, and no other mark does
pub record Bodied (p : Phase) : Type 0 where
  pub positive : turn p Sg ≡ Mine
  pub negated : turn p Ng ≡ Mine
  pub sole : (m : Mark) → turn p m ≡ Mine → (m ≡ Sg) ⊎ (m ≡ Ng)

-- ---- "4: a byte is out of its range: arity, predicate, n, mask, argument"

-- "0 to 15 is a variable .., 255 a literal, 254 a wildcard (subgoals only)"
unfoldable pub allows : Range → ℕ → Bool
allows (Below n) x = ltb x n
allows (AtMost n) x = leb x n
allows Argument x = leb x 15 || (eqb x 254 || eqb x 255)
allows NoWildcard x = leb x 15 || eqb x 255

-- ---- reading

-- what reading comes to: a fault and how many bytes are left from its place on, or a value and the bytes left after it
pub data Got (A : Type 0) : Type 0 where
  bad : Fault → ℕ → Got A
  got : A → List ℕ → Got A

-- "the first fault found is given"
abbrev pub and_then : {A B : Type 0} → Got A → (A → List ℕ → Got B) → Got B
and_then (bad f k) next = bad f k
and_then (got a s) next = next a s

-- a fault that is found at the first of the bytes s
abbrev pub wrong : {A : Type 0} → Fault → List ℕ → Got A
wrong f s = bad f (place f 0 (length s))

-- "byte by byte from the left, present (1) before in range (4)"
abbrev pub byte : Range → List ℕ → Got ℕ
byte r [] = wrong PastEnd []
byte r (x ∷ s) = cond (allows r x) (got x s) (wrong OutOfRange (x ∷ s))

-- k bytes, after those of acc
unfoldable pub bytes : Range → ℕ → List ℕ → List ℕ → Got (List ℕ)
bytes r zero acc s = got acc s
bytes r (suc k) acc s = and_then (byte r s) (λ x t. bytes r k (acc ++ (x ∷ [])) t)

-- a record of the run, its end, or a fault
abbrev pub on_turn : {A : Type 0} → Turn → Got A → A → List ℕ → Got A
on_turn Mine more a s = more
on_turn Over more a s = got a s
on_turn (No f) more a s = wrong f s

-- "in turn (3), not one too many (5)": a run of records, at most `room` of them, after those of acc
unfoldable pub many : {A : Type 0} → Phase → (List A → List ℕ → Got A) → ℕ → List A → List ℕ → Got (List A)
many p item zero acc s = on_turn (turn p (mark_at s)) (wrong TooMany s) acc s
many p item (suc room) acc s =
    let more = and_then (item acc s) (λ a t. many p item room (acc ++ (a ∷ [])) t) in
    on_turn (turn p (mark_at s)) more acc s

-- ---- the records; those before are acc

-- "PR: arity"
unfoldable pub predicate : List ℕ → List ℕ → Got ℕ
predicate acc s = byte (AtMost max_arity) (drop 2 s)

-- "MO: predicate, n, n masks", and "MO records rise strictly by predicate": the least predicate that the next may name
unfoldable pub low_from : ℕ → List Mode → ℕ
low_from b [] = b
low_from b (m ∷ ms) = low_from (suc m.pred) ms

abbrev pub low : List Mode → ℕ
low ms = low_from 0 ms

-- "n, n masks", each one of so many patterns
unfoldable pub masks : ℕ → List ℕ → Got (List ℕ)
masks patterns s = and_then (byte (AtMost max_masks) s) (λ n t. bytes (Below patterns) n [] t)

-- "6: MO not rising", tried last
unfoldable pub mode_fields : List ℕ → ℕ → List ℕ → Got Mode
mode_fields ar b s =
    and_then (byte (Below (length ar)) s) (λ p t.
    and_then (masks (2 ^ get_or ar p 0) t) (λ ms u.
    cond (leb b p) (got (record { pred = p; masks = ms }) u) (wrong Clash s)))

unfoldable pub mode : List ℕ → List Mode → List ℕ → Got Mode
mode ar acc s = mode_fields ar (low acc) (drop 2 s)

-- "predicate, one argument per position"
unfoldable pub fields : Range → List ℕ → List ℕ → Got Head
fields r ar s =
    and_then (byte (Below (length ar)) s) (λ p t.
    and_then (bytes r (get_or ar p 0) [] t) (λ args u.
    got (record { pred = p; args = args }) u))

-- W9: "254 in an `NG` is 4"
abbrev pub argument_in : Bool → Range
argument_in negated = cond negated NoWildcard Argument

-- "SG: the next subgoal of the clause or query just begun", or NG, which "counts as a subgoal"
unfoldable pub subgoal : List ℕ → List Call → List ℕ → Got Call
subgoal ar acc s =
    let negated : Bool = leads (spelling Ng) s in
    and_then (fields (argument_in negated) ar (drop 2 s)) (λ h t. got (subgoal_of negated h) t)

-- "CL: a clause head", and the subgoals of the clause. W6: "A predicate may have both MO and clauses", so nothing else is asked of its predicate
unfoldable pub clause : List ℕ → List Clause → List ℕ → Got Clause
clause ar acc s =
    and_then (fields NoWildcard ar (drop 2 s)) (λ h t.
    and_then (many Body (subgoal ar) max_subgoals [] t) (λ body u.
    got (record { head = h; body = body }) u))

-- "QU: the query", and its subgoals: the book's own, or one of a page
unfoldable pub query : Phase → List ℕ → List ℕ → Got (List Call)
query p ar s = many p (subgoal ar) max_subgoals [] (drop 2 s)

-- ---- the book

-- What follows the predicates. MO records rise, so there are never more than predicates: the one that could be too many is refused for another
-- fault. The clauses end at QU.
unfoldable pub rules : List ℕ → List ℕ → Got Book
rules ar s =
    and_then (many Modes (mode ar) (suc max_predicates) [] s) (λ ms t.
    and_then (many Clauses (clause ar) max_clauses [] t) (λ cs u.
    and_then (query Query ar u) (λ q v.
    got (record { arities = ar; modes = ms; clauses = cs; query = q }) v)))

unfoldable pub read_book : List ℕ → Got Book
read_book s = and_then (many Predicates predicate max_predicates [] s) (λ ar t. rules ar t)

-- a fault and its offset, or the book
pub data Judged : Type 0 where
  fault : Fault → ℕ → Judged
  book : Book → Judged

abbrev pub judged : List ℕ → Got Book → Judged
judged s (bad f k) = fault f (length s - k)
judged s (got b t) = book b

-- "Records are judged from the left and the first fault found is given."
unfoldable pub judge : List ℕ → Judged
judge s = judged s (read_book s)
