-- The file to open first: everything that this repository promises as a whole, as one statement, `Demands`, over the definitions that the contracts of the
-- public operations name. That the code keeps to those contracts, is safe and ends is proved function by function; that `Demands` holds, in
-- proofs/Laws/Demands.antt. Assumes nothing.
use Rattle.std.specs.Prelude.{◌≡◌, Bool, true, false, ◌↔◌, List, [], ◌∷◌, ◌++◌, ℕ, suc, ◌+◌, ◌^◌, ◌≤◌, ◌<◌, eqb, length, get_or, take, drop}
use Rattle.std.proofs.Math.Option.{none, some}
use Rattle.std.specs.Int.Bits.{bit_or}
use Rattle.masks.specs.Constraint.{admits, ill, trivial, written, minimise, joint as joint_of}
use Rattle.masks.specs.Lists.{has, how_many}
use Rattle.masks.specs.Outcome.{Outcome, refused, done, Answers}
use Rattle.masks.specs.Joining.{joining}
use Rattle.masks.specs.Set.{bit_at}
use Rattle.masks.specs.declared.Way.TheVariants.{Choice, Joint}
use Rattle.masks.specs.declared.reply.Reply.{Reply}
use Rattle.book.specs.Limits.{max_queries, longest, longest_table, longest_plan, longest_page, shortest}
use Rattle.book.specs.Book.{Call, Clause, Book, with_query}
use Rattle.book.specs.Format.{number, Stands, fault, book, judge}
use Rattle.book.specs.Encode.{PR, MO, CL, SG, NG, QU, run, encode, call_fits, WellFormed}
use Rattle.book.specs.Held.{book_in}
use Rattle.book.specs.Table.{Table, entry}
use Rattle.book.specs.declared.fault.Fault.{Fault}
use Rattle.reading.specs.Judged.{checked}
use Rattle.ordering.specs.Adorn.{variables, Bound, nothing, is_bound, head_bound, known}
use Rattle.ordering.specs.Orders.{In, Rearranges, LexLt, Least, Sorted}
use Rattle.ordering.specs.Good.{good_from, brought, filled}
use Rattle.tables.specs.Table.{declared, defined, good, table, rounds_bound, rounds, final}
use Rattle.tables.specs.Image as analysed
use Rattle.choices.specs.Choice.{clause, IsChoice, Reaches, WellModed, Orderable}
use Rattle.choices.specs.Plan.{Row, row_key, chosen, plan_rows, image, planning}
use Rattle.paging.specs.Run.{faulty, queries, judge_run, enc_qu, query_fits, FitRun}
use Rattle.paging.specs.Page.{answer, accepts, AsPlan, paging, verdicts}
use Rattle.printing.specs.Sheet.{line, constraint_lines, rounds_line, printing}
use Rattle.closing.specs.Close.{lacked, closing}
use Rattle.depot.specs.Depot.{self_contained, plan_left, image_left, order_lines_left}
use Rattle.tally.specs.declared.Tally.{Tally}
use Rattle.tally.specs.Tallied.{Tallies}

-- ---- Demand 1: every string of bytes gets a defined reply; a refusal has its number and place and alters no byte of a lent buffer

-- The public operations that are lent a buffer, with their input: `choice` and `joint` of the crate `masks`, `analyse`, `plan`, `close`, `page`, `sheet`, and
-- `write_book`, whose input is a book as the code holds it. (`check` is lent none.)
pub data Operation : Type 0 where
  choice joint : (arity : ℕ) (first second : List ℕ) → Operation
  analyse plan sheet : (bytes : List ℕ) → Operation
  close : (set : ℕ) (bytes : List ℕ) → Operation
  page : (bytes run : List ℕ) → Operation
  write : (preds : ℕ) (arities modes : List ℕ) (clauses : ℕ) (rules : List ℕ) → Operation

-- What each comes to: the contract of each is `Answers` of this, and that of `page`, which is lent a tally too, `Tallies`. Those of the C functions cite it by
-- this name.
abbrev pub outcome : Operation → Outcome
outcome (choice arity first second) = joining Choice arity first second
outcome (joint arity first second) = joining Joint arity first second
outcome (analyse bytes) = analysed.analysis bytes
outcome (plan bytes) = planning bytes
outcome (sheet bytes) = printing bytes
outcome (close set bytes) = closing set bytes
outcome (page bytes run) = paging bytes run
outcome (write preds arities modes clauses rules) = done 0 (encode (book_in preds arities modes clauses rules))

-- There is an answer, the reply and every byte of the buffer, and it is the only one.
pub record OneAnswer (o : Outcome) (out : List ℕ) : Type 0 where
  pub reply· : Reply
  pub after : List ℕ
  pub answers : Answers o out reply· after
  pub only : (r : Reply) (a : List ℕ) → Answers o out r a → (r ≡ reply·) × (a ≡ after)

-- There is a valid book of n bytes.
abbrev pub BookOf : ℕ → Type 0
BookOf n = (s : List ℕ) × (B : Book) × (judge s ≡ book B) × (length s ≡ n)

-- Every operation on a book refuses the bytes with the number of the fault, from 1 to 6, and its place: W2's "book's length" for 1, a byte of theirs for 2,
-- 4, 5 and 6, either for 3.
pub record Faulty (s : List ℕ) (f : Fault) (at : ℕ) : Type 0 where
  pub least : 1 ≤ number f
  pub most : number f ≤ 6
  pub place : Stands f (length s) at
  pub check· : checked (judge s) ≡ record { number = number f; value = at; rounds = 0 }
  pub analyse· : outcome (analyse s) ≡ refused (number f) at
  pub plan· : outcome (plan s) ≡ refused (number f) at
  pub close· : (set : ℕ) → outcome (close set s) ≡ refused (number f) at
  pub page· : (r : List ℕ) → outcome (page s r) ≡ refused (number f) at

pub record Demand1 : Type 0 where
  -- every operation answers every input in every buffer, and in one way
  pub defined : (op : Operation) (out : List ℕ) → OneAnswer (outcome op) out
  -- a refusal alters no byte
  pub kept : (op : Operation) {out : List ℕ} {r : Reply} {after : List ℕ} → Answers (outcome op) out r after → (r.number ≡ 0 → ⊥) → after ≡ out
  -- a success alters none after the bytes written
  pub rest : (op : Operation) {out : List ℕ} {r : Reply} {after : List ℕ} → Answers (outcome op) out r after → r.number ≡ 0
      → drop r.value after ≡ drop r.value out
  -- W1: "a refused one doesn't touch it": nor is the tally altered
  pub untouched : (s r : List ℕ) {out : List ℕ} {old : Tally} {x : Reply} {after : List ℕ} {t : Tally} → Tallies (outcome (page s r)) (verdicts s r) out old x after t
      → (x.number ≡ 0 → ⊥) → t ≡ old
  -- the strings that are books are the bytes of the books that keep to all limits
  pub books : (s : List ℕ) (B : Book) → (judge s ≡ book B) ↔ ((encode B ≡ s) × WellFormed B)
  -- W6: "The longest book grows to 6,986 bytes"; "the shortest 2": none is longer or shorter, and there is one of each length
  pub most : (s : List ℕ) (B : Book) → judge s ≡ book B → (shortest ≤ length s) × (length s ≤ longest)
  pub attained : BookOf shortest × BookOf longest
  -- and the check answers 0 with the value 0 exactly for the books
  pub checks : (s : List ℕ) → (checked (judge s) ≡ record { number = 0; value = 0; rounds = 0 }) ↔ ((B : Book) × (judge s ≡ book B))
  -- all others have a first fault, with which they are refused
  pub faults : (s : List ℕ) (f : Fault) (at : ℕ) → judge s ≡ fault f at → Faulty s f at

-- ---- Demand 2: the needs are those of document 01, and W6's of what a book declares itself; an accepted book gets orders in which every outside call, and
-- every call of a predicate with MO, has what it must have; a book is refused as unorderable exactly when no orders give that; the order chosen is the
-- first of the good ones

-- σ is an order of a body, and with b bound at the start it "makes every subgoal's pattern fit the constraint of its predicate" in a table, and W9, of a negated
-- one: "When it is placed, every variable in it must be bound already".
abbrev pub GoodOrder : Table → List Call → Bound → List ℕ → Type 0
GoodOrder T body b σ = Rearranges (length body) σ × (good_from T body b σ ≡ true)

-- "A clause is good under a head pattern when some order" does, and W3: "each head variable that is in none of its subgoals is bound by that pattern as
-- well".
abbrev pub GoodClause : Table → Clause → ℕ → Type 0
GoodClause T c a = ((σ : List ℕ) × GoodOrder T c.body (head_bound c.head.args a) σ) × (brought c (head_bound c.head.args a) ≡ true)

-- The pattern fits the MO of the predicate as the book gives it; one without MO "asks for nothing".
abbrev pub FitsMode : Book → ℕ → ℕ → Type 0
FitsMode B p a = admits (declared B.modes p) a ≡ true

-- "A predicate's pattern is good when all its clauses are good under it."
abbrev pub GoodPattern : Table → Book → ℕ → ℕ → Type 0
GoodPattern T B p a = (j : ℕ) → j < length B.clauses → (clause B j).head.pred ≡ p → GoodClause T (clause B j) a

-- Of the good orders of a body σ is the first, "compared from the left".
abbrev pub FirstGood : Table → List Call → Bound → List ℕ → Type 0
FirstGood T body b σ = Least (GoodOrder T body b) (some σ)

-- How many patterns of the arity of p its constraint in the final table admits.
abbrev pub Count : Book → ℕ → ℕ
Count B p = how_many (admits (entry (final B) p)) (2 ^ get_or B.arities p 0)

-- Of the bytes of a valid book.
pub record Demand2 (s : List ℕ) (B : Book) : Type 0 where
  -- "Table 0: each MO as given and minimised, all others trivial."
  pub first : (p : ℕ) → p < length B.arities → entry (table B 0) p ≡ minimise (declared B.modes p)
  -- "Table k+1: each predicate with clauses gets exactly the patterns good under table k, the rest keep theirs.", and W6: of those that fit its MO; "every
  -- round takes the joint of MO and clauses"
  pub gets : (k p a : ℕ) → p < length B.arities → defined B.clauses p ≡ true → a < 2 ^ get_or B.arities p 0
      → (admits (entry (table B (suc k)) p) a ≡ true) ↔ (FitsMode B p a × GoodPattern (table B k) B p a)
  pub joint· : (k p : ℕ) → p < length B.arities → defined B.clauses p ≡ true
      → entry (table B (suc k)) p ≡ joint_of (declared B.modes p) (written (good (table B k) B.clauses p) (2 ^ get_or B.arities p 0))
  pub keeps : (k p : ℕ) → p < length B.arities → defined B.clauses p ≡ false → entry (table B (suc k)) p ≡ entry (table B k) p
  -- the analysis gives the image of table k and k rounds, where k is the least at which table k+1 equals table k
  pub needs : analysed.analysis s ≡ done (rounds B) (analysed.image B)
  pub last : final B ≡ table B (rounds B)
  pub settled : table B (suc (rounds B)) ≡ table B (rounds B)
  pub least : (k : ℕ) → table B (suc k) ≡ table B k → rounds B ≤ k
  -- W5, "How long can the analysis go on": "the rounds are at most the sum, over the predicates with clauses, of 2 to the power of the arity", and that is at
  -- most 4,096. `rounds` looks no further than this sum; that it finds them there is `settled`
  pub bound : rounds B ≤ rounds_bound B
  pub bound_most : rounds_bound B ≤ 4096
  -- "how many patterns each final constraint admits .. one byte more at the end of each CN": behind the records of the predicates before it, that of p
  -- ends in the number of patterns of its arity that its constraint admits; this is 0 exactly where no call can ask p, all of them exactly where p asks for
  -- nothing, and it is a byte
  pub counted : (p : ℕ) → p < length B.arities
      → (after : List ℕ) × (analysed.rows B.arities (final B) p ++ (analysed.row p (entry (final B) p) (Count B p) ++ after) ≡ analysed.image B)
  pub count_none : (p : ℕ) → p < length B.arities → (Count B p ≡ 0) ↔ (entry (final B) p ≡ ill)
  pub count_all : (p : ℕ) → p < length B.arities → (Count B p ≡ 2 ^ get_or B.arities p 0) ↔ (entry (final B) p ≡ trivial)
  pub count_most : (p : ℕ) → Count B p ≤ 64
  -- the final table lies inside every MO: what it admits of a predicate fits what the book declares of that
  pub inside : (p a : ℕ) → admits (entry (final B) p) a ≡ true → FitsMode B p a
  -- a buffer of 1,600 bytes always suffices for it
  pub table_room : length (analysed.image B) ≤ longest_table
  -- reply 7 is given exactly when no choice of orders makes the book well-moded; else there is a plan
  pub seven : (planning s ≡ refused 7 0) ↔ (Orderable B → ⊥)
  pub planned : (planning s ≡ done 0 (image B)) ↔ Orderable B
  -- "The longest plan is 53,259 bytes."
  pub plan_room : length (image B) ≤ longest_plan
  -- its orders are a choice that makes the book well-moded: every reached pattern of a predicate, outside or defined, fits what the book declares, W3's rule
  -- holds of every reached clause, and W9's of every negated subgoal of the query and of a reached clause, in its turn
  pub choice· : Orderable B → IsChoice B (chosen B)
  pub well_moded : Orderable B → WellModed B (chosen B)
  -- it has a record for exactly the clauses of reached predicates, under the patterns reached
  pub reached : (k a : ℕ) → ((σ : List ℕ) × In (record { clause· = k; pattern = a; places = σ }) (plan_rows B))
      ↔ ((k < length B.clauses) × Reaches B (chosen B) (clause B k).head.pred a)
  -- its records stand "ascending by predicate and then pattern, for each of its clauses in turn", each once
  pub ascending : Sorted (λ (r q : Row). LexLt (row_key B r) (row_key B q)) (plan_rows B)
  -- each order is the first of the good ones
  pub query_first : Orderable B → FirstGood (final B) B.query nothing (chosen B).for_query
  pub clause_first : Orderable B → (r : Row) → In r (plan_rows B)
      → FirstGood (final B) (clause B r.clause·).body (head_bound (clause B r.clause·).head.args r.pattern) r.places
  -- W3, "A clause that gives back an empty cell": its rule holds of a clause exactly where every argument of the head is bound when the subgoals have run, in
  -- whatever order; so no clause of the plan gives one back
  pub rule : (c : Clause) (a : ℕ) (σ : List ℕ) → Rearranges (length c.body) σ
      → brought c (head_bound c.head.args a) ≡ filled c (head_bound c.head.args a) σ
  pub filled· : Orderable B → (r : Row) → In r (plan_rows B)
      → filled (clause B r.clause·) (head_bound (clause B r.clause·).head.args r.pattern) r.places ≡ true
  -- W9, "Conditions that say "not"": its rule holds of a negated subgoal exactly where "every variable in it" is bound
  pub negation : (b : Bound) (c : Call) → call_fits B.arities c ≡ true → c.negated ≡ true
      → (known b c ≡ true) ↔ ((v : ℕ) → v < variables → has c.args v ≡ true → is_bound b v ≡ true)

-- ---- W1, "All the queries of a page in one go": of one book, as demand 2 says of one query

-- Of the bytes of a valid book.
pub record PageOf (s : List ℕ) (B : Book) : Type 0 where
  -- "judged from the left by the book's rules": the runs without a fault are the bytes of at most 256 queries of the book
  pub runs : (r : List ℕ) (qs : List (List Call)) → (judge_run B.arities r ≡ queries qs) ↔ ((run enc_qu qs ≡ r) × FitRun B.arities qs)
  -- each of them is one that the book might have for its own
  pub query· : (q : List Call) → (query_fits B.arities q ≡ true) ↔ WellFormed (with_query B q)
  -- all others have a first fault, with which the page is refused; it is one of 1 to 5, "places counted in the run": as in a book, of the run's bytes
  pub faults : (r : List ℕ) (f : Fault) (at : ℕ) → judge_run B.arities r ≡ faulty f at
      → (outcome (page s r) ≡ refused (number f) at) × (number f ≤ 5) × Stands f (length r) at
  -- "the reply to one query depends on the book and that query only": a page is the answers to its queries, one after the other
  pub answers : (r : List ℕ) (qs : List (List Call)) → judge_run B.arities r ≡ queries qs → outcome (page s r) ≡ done 0 (run (answer (final B)) qs)
  -- "For each comes a byte 0 or 7 and, after 0, its `QO` record, as the plan would give with that query in place of the book's own": 7 where that plan is
  -- refused with 7, else 0 and the plan's first record
  pub planned : (q : List Call) → query_fits B.arities q ≡ true → AsPlan (planning (encode (with_query B q))) (answer (final B) q)
  -- the book's own query plays no part
  pub own : (q : List Call) → query_fits B.arities q ≡ true → (r : List ℕ) → outcome (page (encode (with_query B q)) r) ≡ outcome (page s r)
  -- "An empty run writes nothing."; and two runs in one give the answers of the two, while there are not too many queries
  pub empty : outcome (page s []) ≡ done 0 []
  pub joined : (a b : List ℕ) (qa qb : List (List Call)) → judge_run B.arities a ≡ queries qa → judge_run B.arities b ≡ queries qb
      → length qa + length qb ≤ max_queries → outcome (page s (a ++ b)) ≡ done 0 (run (answer (final B)) qa ++ run (answer (final B)) qb)
  -- a buffer of 3,072 bytes always suffices
  pub room : (r : List ℕ) (qs : List (List Call)) → judge_run B.arities r ≡ queries qs → length (run (answer (final B)) qs) ≤ longest_page
  -- "One tally record, of queries accepted and turned away": a query is accepted where its answer begins with 0; a call that replies 0 leaves how many are, and
  -- the others are turned away
  pub accepted : (q : List Call) → accepts (final B) q ≡ eqb (get_or (answer (final B) q) 0 7) 0
  pub tally : (r : List ℕ) (qs : List (List Call)) → judge_run B.arities r ≡ queries qs
      → {out : List ℕ} {old : Tally} {x : Reply} {after : List ℕ} {t : Tally} → Tallies (outcome (page s r)) (verdicts s r) out old x after t → x.number ≡ 0
      → (t.accepted ≡ how_many (λ i. accepts (final B) (get_or qs i [])) (length qs)) × (t.accepted + t.turned_away ≡ length qs)

-- There is a page whose answer has n bytes.
abbrev pub Answer : ℕ → Type 0
Answer n = (s r bytes : List ℕ) × (outcome (page s r) ≡ done 0 bytes) × (length bytes ≡ n)

-- ---- Demand 3: any set of predicates replaced by what they need changes no need and no acceptance, and closing in parts gives the same bytes as closing at
-- once; W10, "The depot wants the same sheet": no order changes either, and of a self-contained set none is missing

-- A call of `closing::close` with some buffer replied 0 and wrote t.
pub record Closes (set : ℕ) (s t : List ℕ) : Type 0 where
  pub out : List ℕ
  pub reply· : Reply
  pub after : List ℕ
  pub answers : Answers (closing set s) out reply· after
  pub zero : reply·.number ≡ 0
  pub bytes : take reply·.value after ≡ t

-- t is a valid book, too, with the needs of B; and it is refused as unorderable exactly when s is.
pub record SameNeeds (s : List ℕ) (B : Book) (t : List ℕ) : Type 0 where
  pub closed : Book
  pub valid : judge t ≡ book closed
  pub arities : closed.arities ≡ B.arities
  pub needs : final closed ≡ final B
  pub accepted : (planning t ≡ refused 7 0) ↔ (planning s ≡ refused 7 0)

-- W10: t has what is left of the orders of s, "the full plan without the chosen predicates' `CO` records, clause numbers moved down past the dropped clauses";
-- the record of the query is as it was.
pub record SameOrders (set : ℕ) (s : List ℕ) (B : Book) (t : List ℕ) : Type 0 where
  -- "reply 7 comes for both or neither"
  pub seven : (planning t ≡ refused 7 0) ↔ (planning s ≡ refused 7 0)
  -- where s has a plan, that of t is what is left of it
  pub left : planning s ≡ done 0 (image B) → planning t ≡ done 0 (image_left (bit_at set) B)
  -- so on the sheets: the `C` lines are the same, the `R` line is that of the book that t is, and the `Q` and `O` lines are those that are left
  pub printed : (C : Book) → judge t ≡ book C → outcome (sheet t) ≡ done 0 (constraint_lines B ++ (rounds_line C ++ order_lines_left (bit_at set) B))

-- Of the bytes of a valid book.
pub record Demand3 (s : List ℕ) (B : Book) : Type 0 where
  -- a set with a predicate that the book lacks is refused with the lowest; any other is closed, and a buffer of 6,986 bytes always suffices
  pub lacks : (set p : ℕ) → lacked set (length B.arities) ≡ some p → closing set s ≡ refused 8 p
  pub closes : (set : ℕ) → lacked set (length B.arities) ≡ none → {out : List ℕ} {r : Reply} {after : List ℕ} → Answers (closing set s) out r after
      → longest ≤ length out → r.number ≡ 0
  -- a book that cannot be ordered is closed like any other
  pub seven : (set : ℕ) {out : List ℕ} {r : Reply} {after : List ℕ} → Answers (closing set s) out r after → r.number ≡ 7 → ⊥
  -- no need and no acceptance changes
  pub same : (set : ℕ) (t : List ℕ) → Closes set s t → SameNeeds s B t
  -- nor does an order: of the book C that t is, the query has the order that it had, and each row of the plan is one of those that are left
  pub orders : (set : ℕ) (t : List ℕ) (C : Book) → Closes set s t → judge t ≡ book C
      → ((chosen C).for_query ≡ (chosen B).for_query) × ((r : Row) → In r (plan_rows C) → In r (plan_left (bit_at set) B))
  -- and all of those are there, "if the chosen predicates' clauses call only chosen predicates or predicates without clauses"
  pub depot : (set : ℕ) (t : List ℕ) → Closes set s t → self_contained (bit_at set) B.clauses ≡ true → SameOrders set s B t
  -- one set and then another gives the same bytes as both at once, in either turn
  pub parts : (S R : ℕ) (t u v : List ℕ) → Closes S s t → Closes R t u → Closes (bit_or S R) s v → u ≡ v
  pub turned : (S R : ℕ) (t u v w : List ℕ) → Closes S s t → Closes R t u → Closes R s v → Closes S v w → u ≡ w
  -- and is refused where both at once are, with the same number and value
  pub refusals : (S R : ℕ) (t : List ℕ) → Closes S s t → outcome (close R t) ≡ outcome (close (bit_or S R) s)
  -- a set again changes nothing; the empty set gives back the same bytes; a set gives one string of bytes
  pub again : (set : ℕ) (t u : List ℕ) → Closes set s t → Closes set t u → u ≡ t
  pub none· : (t : List ℕ) → Closes 0 s t → t ≡ s
  pub one : (set : ℕ) (t u : List ℕ) → Closes set s t → Closes set s u → t ≡ u

-- ---- Document 01's examples: "K1 to K12 are proved as one table under one statement.", W3's two, and books for W6, W9, W5 and W10. Where there are no numbers of
-- predicates and no query, the predicates without clauses come first, and the query reaches the patterns that are named.

pub data Example : Type 0 where
  -- the bytes of a valid book; its rounds and its table; its plan, or that it has none
  of_book : (bytes : List ℕ) (rounds : ℕ) (table : List ℕ) (plan : Outcome) → Example
  -- the bytes of a book, and what is printed of it
  of_sheet : (bytes sheet : List ℕ) → Example
  -- the bytes of a valid book, closed over a set; whether that is self-contained; the plan of the closed book, and what is left of the book's own
  of_closing : (bytes : List ℕ) (set : ℕ) (contained : Bool) (plan left : List ℕ) → Example
  -- two lists of masks of six positions, and their joint
  of_masks : (first second joint : List ℕ) → Example

abbrev pub Holds : Example → Type 0
Holds (of_book s k t p) = (checked (judge s) ≡ record { number = 0; value = 0; rounds = 0 }) × (outcome (analyse s) ≡ done k t) × (outcome (plan s) ≡ p)
Holds (of_sheet s t) = outcome (sheet s) ≡ done 0 t
Holds (of_closing s set c p l) =
    (B : Book) × (t : List ℕ) × (judge s ≡ book B) × (outcome (close set s) ≡ done 0 t) × (self_contained (bit_at set) B.clauses ≡ c) × (outcome (plan t) ≡ done 0 p)
    × (image_left (bit_at set) B ≡ l)
Holds (of_masks x y z) = outcome (joint 6 x y) ≡ done 0 z

abbrev pub EachHolds : List Example → Type 0
EachHolds [] = Unit {0}
EachHolds (e ∷ es) = Holds e × EachHolds es

-- the records of a table and of a plan: a mark, and its fields
abbrev pub CN : List ℕ → List ℕ
CN fields = 67 ∷ 78 ∷ fields

abbrev pub QO : List ℕ → List ℕ
QO fields = 81 ∷ 79 ∷ fields

abbrev pub CO : List ℕ → List ℕ
CO fields = 67 ∷ 79 ∷ fields

-- a line of the sheet: its letter, and fields of one digit each
abbrev pub text : ℕ → List ℕ → List ℕ
text letter digits = line letter (run (λ d. 32 ∷ (48 + d) ∷ []) digits)

-- a line of it that says what a predicate needs: one mask, and the count
abbrev pub need : ℕ → ℕ → ℕ → List ℕ
need p mask count = line 67 (32 ∷ (48 + p) ∷ 32 ∷ (48 + mask) ∷ 32 ∷ 47 ∷ (48 + count) ∷ [])

-- "The book has 45 bytes"
abbrev pub k1 : List ℕ
k1 =
    PR (1 ∷ []) ++ PR (2 ∷ []) ++ PR (1 ∷ []) ++ PR (1 ∷ []) ++ MO (1 ∷ 1 ∷ 1 ∷ []) ++ MO (3 ∷ 1 ∷ 1 ∷ []) ++ CL (2 ∷ 0 ∷ []) ++ SG (3 ∷ 1 ∷ [])
    ++ SG (1 ∷ 0 ∷ 1 ∷ []) ++ QU ++ SG (2 ∷ 0 ∷ []) ++ SG (0 ∷ 0 ∷ [])

-- m needs {1}: a(X) :- b(X) and b(X) :- m(X). The query a(255)
abbrev pub k8 : List ℕ
k8 =
    PR (1 ∷ []) ++ PR (1 ∷ []) ++ PR (1 ∷ []) ++ MO (0 ∷ 1 ∷ 1 ∷ []) ++ CL (1 ∷ 0 ∷ []) ++ SG (2 ∷ 0 ∷ []) ++ CL (2 ∷ 0 ∷ []) ++ SG (0 ∷ 0 ∷ [])
    ++ QU ++ SG (1 ∷ 255 ∷ [])

-- dark(H) :- report(H) and lit(H) :- not dark(H), head(H). The query lit(H)
abbrev pub dark : List ℕ
dark =
    PR (1 ∷ []) ++ PR (1 ∷ []) ++ PR (1 ∷ []) ++ PR (1 ∷ []) ++ CL (2 ∷ 0 ∷ []) ++ SG (1 ∷ 0 ∷ []) ++ CL (3 ∷ 0 ∷ []) ++ NG (2 ∷ 0 ∷ [])
    ++ SG (0 ∷ 0 ∷ []) ++ QU ++ SG (3 ∷ 0 ∷ [])

abbrev pub examples : List Example
examples =
    -- "K1: the book above has the constraints, rounds and orders printed."
    of_book k1
    1 (CN (0 ∷ 1 ∷ 0 ∷ 2 ∷ []) ++ CN (1 ∷ 1 ∷ 1 ∷ 2 ∷ []) ++ CN (2 ∷ 1 ∷ 1 ∷ 1 ∷ []) ++ CN (3 ∷ 1 ∷ 1 ∷ 1 ∷ []))
    (done 0 (QO (2 ∷ 1 ∷ 0 ∷ []) ++ CO (0 ∷ 1 ∷ 2 ∷ 1 ∷ 0 ∷ [])))
    -- "Printed whole", with W5's counts: `C 0 0 /2`, `C 1 1 /2`, `C 2 1 /1`, `C 3 1 /1`, `R 1`, `Q 1 0`, `O 0 1 1 0`
    ∷ of_sheet k1
    (need 0 0 2 ++ need 1 1 2 ++ need 2 1 1 ++ need 3 1 1 ++ text 82 (1 ∷ []) ++ text 81 (1 ∷ 0 ∷ []) ++ text 79 (0 ∷ 1 ∷ 1 ∷ 0 ∷ []))
    -- "K2: `QU` alone: 0 rounds, plan `QO` 0."
    ∷ of_book QU
    0 []
    (done 0 (QO (0 ∷ [])))
    -- "K3: r(X,Y) :- f(X,Y), g(X,Y) with f {1,2}, g {1}: masks 1; under pattern 1 places 1 0, under 3 places 0 1."
    ∷ of_book (PR (2 ∷ []) ++ PR (2 ∷ []) ++ PR (2 ∷ []) ++ MO (0 ∷ 1 ∷ 3 ∷ []) ++ MO (1 ∷ 1 ∷ 1 ∷ []) ++ CL (2 ∷ 0 ∷ 1 ∷ []) ++ SG (0 ∷ 0 ∷ 1 ∷ [])
    ++ SG (1 ∷ 0 ∷ 1 ∷ []) ++ QU ++ SG (2 ∷ 255 ∷ 0 ∷ []) ++ SG (2 ∷ 255 ∷ 255 ∷ []))
    1 (CN (0 ∷ 1 ∷ 3 ∷ 1 ∷ []) ++ CN (1 ∷ 1 ∷ 1 ∷ 2 ∷ []) ++ CN (2 ∷ 1 ∷ 1 ∷ 2 ∷ []))
    (done 0 (QO (2 ∷ 0 ∷ 1 ∷ []) ++ CO (0 ∷ 1 ∷ 2 ∷ 1 ∷ 0 ∷ []) ++ CO (0 ∷ 3 ∷ 2 ∷ 0 ∷ 1 ∷ [])))
    -- "K4 (document 000, 4.7): r(Y,Z) :- f(X), g(X,Y,Z), h(Z), i(X), j(X,W), with f {1}, g {1,2} or {1,3}, h {1}: masks 1 2; under 1 places 3 0 1 2 4,
    -- under 2 places 2 3 0 1 4."
    ∷ of_book (PR (1 ∷ []) ++ PR (3 ∷ []) ++ PR (1 ∷ []) ++ PR (1 ∷ []) ++ PR (2 ∷ []) ++ PR (2 ∷ []) ++ MO (0 ∷ 1 ∷ 1 ∷ []) ++ MO (1 ∷ 2 ∷ 3 ∷ 5 ∷ [])
    ++ MO (2 ∷ 1 ∷ 1 ∷ []) ++ CL (5 ∷ 0 ∷ 1 ∷ []) ++ SG (0 ∷ 2 ∷ []) ++ SG (1 ∷ 2 ∷ 0 ∷ 1 ∷ []) ++ SG (2 ∷ 1 ∷ []) ++ SG (3 ∷ 2 ∷ [])
    ++ SG (4 ∷ 2 ∷ 3 ∷ []) ++ QU ++ SG (5 ∷ 255 ∷ 0 ∷ []) ++ SG (5 ∷ 254 ∷ 255 ∷ []))
    1 (CN (0 ∷ 1 ∷ 1 ∷ 1 ∷ []) ++ CN (1 ∷ 2 ∷ 3 ∷ 5 ∷ 3 ∷ []) ++ CN (2 ∷ 1 ∷ 1 ∷ 1 ∷ []) ++ CN (3 ∷ 1 ∷ 0 ∷ 2 ∷ []) ++ CN (4 ∷ 1 ∷ 0 ∷ 4 ∷ []) ++ CN (5 ∷ 2 ∷ 1 ∷ 2 ∷ 3 ∷ []))
    (done 0 (QO (2 ∷ 0 ∷ 1 ∷ []) ++ CO (0 ∷ 1 ∷ 5 ∷ 3 ∷ 0 ∷ 1 ∷ 2 ∷ 4 ∷ []) ++ CO (0 ∷ 2 ∷ 5 ∷ 2 ∷ 3 ∷ 0 ∷ 1 ∷ 4 ∷ [])))
    -- "K5 (4.10): r(X) :- g(Y), f(X), each needing {1}: ill."
    ∷ of_book (PR (1 ∷ []) ++ PR (1 ∷ []) ++ PR (1 ∷ []) ++ MO (0 ∷ 1 ∷ 1 ∷ []) ++ MO (1 ∷ 1 ∷ 1 ∷ []) ++ CL (2 ∷ 0 ∷ []) ++ SG (1 ∷ 1 ∷ []) ++ SG (0 ∷ 0 ∷ [])
    ++ QU ++ SG (2 ∷ 255 ∷ []))
    1 (CN (0 ∷ 1 ∷ 1 ∷ 1 ∷ []) ++ CN (1 ∷ 1 ∷ 1 ∷ 1 ∷ []) ++ CN (2 ∷ 0 ∷ 0 ∷ []))
    (refused 7 0)
    -- "K6 (5.2): joint of {1}, {3,6} and {4} as masks, two at a time: 7."
    ∷ of_masks (1 ∷ []) (3 ∷ 6 ∷ []) (3 ∷ [])
    ∷ of_masks (3 ∷ []) (4 ∷ []) (7 ∷ [])
    -- "K7: weak(P,H) :- hash(P,H), rainbow(H,P), each needing {1}: masks 1 2."
    ∷ of_book (PR (2 ∷ []) ++ PR (2 ∷ []) ++ PR (2 ∷ []) ++ MO (0 ∷ 1 ∷ 1 ∷ []) ++ MO (1 ∷ 1 ∷ 1 ∷ []) ++ CL (2 ∷ 0 ∷ 1 ∷ []) ++ SG (0 ∷ 0 ∷ 1 ∷ [])
    ++ SG (1 ∷ 1 ∷ 0 ∷ []) ++ QU ++ SG (2 ∷ 255 ∷ 0 ∷ []) ++ SG (2 ∷ 1 ∷ 0 ∷ []))
    1 (CN (0 ∷ 1 ∷ 1 ∷ 2 ∷ []) ++ CN (1 ∷ 1 ∷ 1 ∷ 2 ∷ []) ++ CN (2 ∷ 2 ∷ 1 ∷ 2 ∷ 3 ∷ []))
    (done 0 (QO (2 ∷ 0 ∷ 1 ∷ []) ++ CO (0 ∷ 1 ∷ 2 ∷ 0 ∷ 1 ∷ []) ++ CO (0 ∷ 2 ∷ 2 ∷ 1 ∷ 0 ∷ [])))
    -- "K8: a(X) :- b(X) and b(X) :- m(X), m {1}: 2 rounds, a and b both 1."
    ∷ of_book k8
    2 (CN (0 ∷ 1 ∷ 1 ∷ 1 ∷ []) ++ CN (1 ∷ 1 ∷ 1 ∷ 1 ∷ []) ++ CN (2 ∷ 1 ∷ 1 ∷ 1 ∷ []))
    (done 0 (QO (1 ∷ 0 ∷ []) ++ CO (0 ∷ 1 ∷ 1 ∷ 0 ∷ []) ++ CO (1 ∷ 1 ∷ 1 ∷ 0 ∷ [])))
    -- "K9: p(X) :- p(X), m(X), m {1}: trivial, 0 rounds, places 0 1."
    ∷ of_book (PR (1 ∷ []) ++ PR (1 ∷ []) ++ MO (0 ∷ 1 ∷ 1 ∷ []) ++ CL (1 ∷ 0 ∷ []) ++ SG (1 ∷ 0 ∷ []) ++ SG (0 ∷ 0 ∷ []) ++ QU ++ SG (1 ∷ 0 ∷ []))
    0 (CN (0 ∷ 1 ∷ 1 ∷ 1 ∷ []) ++ CN (1 ∷ 1 ∷ 0 ∷ 2 ∷ []))
    (done 0 (QO (1 ∷ 0 ∷ []) ++ CO (0 ∷ 0 ∷ 2 ∷ 0 ∷ 1 ∷ [])))
    -- "K10: r(X,X) :- f(X), f {1}: masks 1 2."
    ∷ of_book (PR (1 ∷ []) ++ PR (2 ∷ []) ++ MO (0 ∷ 1 ∷ 1 ∷ []) ++ CL (1 ∷ 0 ∷ 0 ∷ []) ++ SG (0 ∷ 0 ∷ []) ++ QU ++ SG (1 ∷ 255 ∷ 0 ∷ [])
    ++ SG (1 ∷ 254 ∷ 255 ∷ []))
    1 (CN (0 ∷ 1 ∷ 1 ∷ 1 ∷ []) ++ CN (1 ∷ 2 ∷ 1 ∷ 2 ∷ 3 ∷ []))
    (done 0 (QO (2 ∷ 0 ∷ 1 ∷ []) ++ CO (0 ∷ 1 ∷ 1 ∷ 0 ∷ []) ++ CO (0 ∷ 2 ∷ 1 ∷ 0 ∷ [])))
    -- "K11: the query m(255), m {1}: accepted; m(254): reply 7."
    ∷ of_book (PR (1 ∷ []) ++ MO (0 ∷ 1 ∷ 1 ∷ []) ++ QU ++ SG (0 ∷ 255 ∷ []))
    0 (CN (0 ∷ 1 ∷ 1 ∷ 1 ∷ []))
    (done 0 (QO (1 ∷ 0 ∷ [])))
    ∷ of_book (PR (1 ∷ []) ++ MO (0 ∷ 1 ∷ 1 ∷ []) ++ QU ++ SG (0 ∷ 254 ∷ []))
    0 (CN (0 ∷ 1 ∷ 1 ∷ 1 ∷ []))
    (refused 7 0)
    -- "K12: an ill predicate that nothing reached calls: accepted."
    ∷ of_book (PR (1 ∷ []) ++ PR (1 ∷ []) ++ PR (1 ∷ []) ++ MO (0 ∷ 0 ∷ []) ++ CL (1 ∷ 0 ∷ []) ++ SG (0 ∷ 0 ∷ []) ++ QU ++ SG (2 ∷ 0 ∷ []))
    1 (CN (0 ∷ 0 ∷ 0 ∷ []) ++ CN (1 ∷ 0 ∷ 0 ∷ []) ++ CN (2 ∷ 1 ∷ 0 ∷ 2 ∷ []))
    (done 0 (QO (1 ∷ 0 ∷ [])))
    -- W3: "The clause seen(H,T) :- head(H) doesn't: T stays empty unless the caller brought it.": masks 2; the query seen(X,255), accepted, and seen(X,Y)
    ∷ of_book (PR (1 ∷ []) ++ PR (2 ∷ []) ++ CL (1 ∷ 0 ∷ 1 ∷ []) ++ SG (0 ∷ 0 ∷ []) ++ QU ++ SG (1 ∷ 0 ∷ 255 ∷ []))
    1 (CN (0 ∷ 1 ∷ 0 ∷ 2 ∷ []) ++ CN (1 ∷ 1 ∷ 2 ∷ 2 ∷ []))
    (done 0 (QO (1 ∷ 0 ∷ []) ++ CO (0 ∷ 2 ∷ 1 ∷ 0 ∷ [])))
    ∷ of_book (PR (1 ∷ []) ++ PR (2 ∷ []) ++ CL (1 ∷ 0 ∷ 1 ∷ []) ++ SG (0 ∷ 0 ∷ []) ++ QU ++ SG (1 ∷ 0 ∷ 1 ∷ []))
    1 (CN (0 ∷ 1 ∷ 0 ∷ 2 ∷ []) ++ CN (1 ∷ 1 ∷ 2 ∷ 2 ∷ []))
    (refused 7 0)
    -- W3: "The fact p(X) with no body gets mask 1."; the query p(255)
    ∷ of_book (PR (1 ∷ []) ++ CL (0 ∷ 0 ∷ []) ++ QU ++ SG (0 ∷ 255 ∷ []))
    1 (CN (0 ∷ 1 ∷ 1 ∷ 1 ∷ []))
    (done 0 (QO (1 ∷ 0 ∷ []) ++ CO (0 ∷ 1 ∷ 0 ∷ [])))
    -- W6: "A predicate may have both MO and clauses": p(X) :- q(X), where p asks for {1} itself: masks 1, in no round; the query p(X), q(X) asks q first,
    -- and p(X) alone is refused
    ∷ of_book (PR (1 ∷ []) ++ PR (1 ∷ []) ++ MO (1 ∷ 1 ∷ 1 ∷ []) ++ CL (1 ∷ 0 ∷ []) ++ SG (0 ∷ 0 ∷ []) ++ QU ++ SG (1 ∷ 0 ∷ []) ++ SG (0 ∷ 0 ∷ []))
    0 (CN (0 ∷ 1 ∷ 0 ∷ 2 ∷ []) ++ CN (1 ∷ 1 ∷ 1 ∷ 1 ∷ []))
    (done 0 (QO (2 ∷ 1 ∷ 0 ∷ []) ++ CO (0 ∷ 1 ∷ 1 ∷ 0 ∷ [])))
    ∷ of_book (PR (1 ∷ []) ++ PR (1 ∷ []) ++ MO (1 ∷ 1 ∷ 1 ∷ []) ++ CL (1 ∷ 0 ∷ []) ++ SG (0 ∷ 0 ∷ []) ++ QU ++ SG (1 ∷ 0 ∷ []))
    0 (CN (0 ∷ 1 ∷ 0 ∷ 2 ∷ []) ++ CN (1 ∷ 1 ∷ 1 ∷ 1 ∷ []))
    (refused 7 0)
    -- W6: "every round takes the joint of MO and clauses": p(X,Y) :- m(Y), h(X), where m and p ask for {1}: masks 3
    ∷ of_book (PR (1 ∷ []) ++ PR (1 ∷ []) ++ PR (2 ∷ []) ++ MO (0 ∷ 1 ∷ 1 ∷ []) ++ MO (2 ∷ 1 ∷ 1 ∷ []) ++ CL (2 ∷ 0 ∷ 1 ∷ []) ++ SG (0 ∷ 1 ∷ [])
    ++ SG (1 ∷ 0 ∷ []) ++ QU ++ SG (2 ∷ 255 ∷ 255 ∷ []))
    1 (CN (0 ∷ 1 ∷ 1 ∷ 1 ∷ []) ++ CN (1 ∷ 1 ∷ 0 ∷ 2 ∷ []) ++ CN (2 ∷ 1 ∷ 3 ∷ 1 ∷ []))
    (done 0 (QO (1 ∷ 0 ∷ []) ++ CO (0 ∷ 3 ∷ 2 ∷ 0 ∷ 1 ∷ [])))
    -- W9: "Not reported dark": lit(H) :- not dark(H), head(H) and dark(H) :- report(H): lit runs its second call first, and dark is reached under pattern 1
    ∷ of_book dark
    0 (CN (0 ∷ 1 ∷ 0 ∷ 2 ∷ []) ++ CN (1 ∷ 1 ∷ 0 ∷ 2 ∷ []) ++ CN (2 ∷ 1 ∷ 0 ∷ 2 ∷ []) ++ CN (3 ∷ 1 ∷ 0 ∷ 2 ∷ []))
    (done 0 (QO (1 ∷ 0 ∷ []) ++ CO (0 ∷ 1 ∷ 1 ∷ 0 ∷ []) ++ CO (1 ∷ 0 ∷ 2 ∷ 1 ∷ 0 ∷ [])))
    -- a negated subgoal without variables can go first: the query not p(255), p(X)
    ∷ of_book (PR (1 ∷ []) ++ QU ++ NG (0 ∷ 255 ∷ []) ++ SG (0 ∷ 0 ∷ []))
    0 (CN (0 ∷ 1 ∷ 0 ∷ 2 ∷ []))
    (done 0 (QO (2 ∷ 0 ∷ 1 ∷ [])))
    -- a variable that only negated subgoals have: in the query, not p(X), it is 7; and r(X) :- p(X), not p(Y) is ill
    ∷ of_book (PR (1 ∷ []) ++ QU ++ NG (0 ∷ 0 ∷ []))
    0 (CN (0 ∷ 1 ∷ 0 ∷ 2 ∷ []))
    (refused 7 0)
    ∷ of_book (PR (1 ∷ []) ++ PR (1 ∷ []) ++ CL (1 ∷ 0 ∷ []) ++ SG (0 ∷ 0 ∷ []) ++ NG (0 ∷ 1 ∷ []) ++ QU ++ SG (0 ∷ 0 ∷ []))
    1 (CN (0 ∷ 1 ∷ 0 ∷ 2 ∷ []) ++ CN (1 ∷ 0 ∷ 0 ∷ []))
    (done 0 (QO (1 ∷ 0 ∷ [])))
    -- a head variable that only a negated subgoal has: r(X) :- not p(X), masks 1
    ∷ of_book (PR (1 ∷ []) ++ PR (1 ∷ []) ++ CL (1 ∷ 0 ∷ []) ++ NG (0 ∷ 0 ∷ []) ++ QU ++ SG (1 ∷ 255 ∷ []))
    1 (CN (0 ∷ 1 ∷ 0 ∷ 2 ∷ []) ++ CN (1 ∷ 1 ∷ 1 ∷ 1 ∷ []))
    (done 0 (QO (1 ∷ 0 ∷ []) ++ CO (0 ∷ 1 ∷ 1 ∷ 0 ∷ [])))
    -- a negated subgoal of an ill predicate is never ready: the query not m(255)
    ∷ of_book (PR (1 ∷ []) ++ MO (0 ∷ 0 ∷ []) ++ QU ++ NG (0 ∷ 255 ∷ []))
    0 (CN (0 ∷ 0 ∷ 0 ∷ []))
    (refused 7 0)
    -- recursion through one is not refused: p(X) :- q(X), not p(X)
    ∷ of_book (PR (1 ∷ []) ++ PR (1 ∷ []) ++ CL (1 ∷ 0 ∷ []) ++ SG (0 ∷ 0 ∷ []) ++ NG (1 ∷ 0 ∷ []) ++ QU ++ SG (1 ∷ 0 ∷ []))
    0 (CN (0 ∷ 1 ∷ 0 ∷ 2 ∷ []) ++ CN (1 ∷ 1 ∷ 0 ∷ 2 ∷ []))
    (done 0 (QO (1 ∷ 0 ∷ []) ++ CO (0 ∷ 0 ∷ 2 ∷ 0 ∷ 1 ∷ []) ++ CO (0 ∷ 1 ∷ 2 ∷ 0 ∷ 1 ∷ [])))
    -- W5: 64 is a byte: a predicate of six positions that asks for nothing
    ∷ of_book (PR (6 ∷ []) ++ QU)
    0 (CN (0 ∷ 1 ∷ 0 ∷ 64 ∷ []))
    (done 0 (QO (0 ∷ [])))
    -- W10: the book of "Not reported dark", closed over dark: clause 0 is dropped, and clause 1, of lit, is 0 then
    ∷ of_closing dark 4 true
    (QO (1 ∷ 0 ∷ []) ++ CO (0 ∷ 0 ∷ 2 ∷ 1 ∷ 0 ∷ []))
    (QO (1 ∷ 0 ∷ []) ++ CO (0 ∷ 0 ∷ 2 ∷ 1 ∷ 0 ∷ []))
    -- its condition is needed: K8, closed over a, whose clause calls b. Nothing else does: b is no longer reached, and what is left of the plan has a record of it
    ∷ of_closing k8 2 false
    (QO (1 ∷ 0 ∷ []))
    (QO (1 ∷ 0 ∷ []) ++ CO (0 ∷ 1 ∷ 1 ∷ 0 ∷ []))
    ∷ []

-- ---- W5's bound is attained: there are books whose analysis takes as many rounds as it says

-- the bytes are a book of n rounds, and n is its bound
abbrev pub Attains : ℕ → List ℕ → Type 0
Attains n s = (B : Book) × (judge s ≡ book B) × (rounds B ≡ n) × (rounds_bound B ≡ n)

-- m and s need {1}: p(X) :- m(X) and p(X) :- p(Z), s(Z,X), where p has one position, and so two patterns
abbrev pub counter1 : List ℕ
counter1 =
    PR (1 ∷ []) ++ PR (2 ∷ []) ++ PR (1 ∷ []) ++ MO (0 ∷ 1 ∷ 1 ∷ []) ++ MO (1 ∷ 1 ∷ 1 ∷ []) ++ CL (2 ∷ 0 ∷ []) ++ SG (0 ∷ 0 ∷ []) ++ CL (2 ∷ 0 ∷ [])
    ++ SG (2 ∷ 15 ∷ []) ++ SG (1 ∷ 15 ∷ 0 ∷ []) ++ QU

-- m needs {1} or {2}, and s {1}: p(X,Y) :- m(X,Y), p(X,Y) :- p(Z,Y), s(Z,X) and p(X,Y) :- p(255,Z), m(X,Z), s(Z,Y), where p has four
abbrev pub counter2 : List ℕ
counter2 =
    PR (2 ∷ []) ++ PR (2 ∷ []) ++ PR (2 ∷ []) ++ MO (0 ∷ 2 ∷ 1 ∷ 2 ∷ []) ++ MO (1 ∷ 1 ∷ 1 ∷ []) ++ CL (2 ∷ 0 ∷ 1 ∷ []) ++ SG (0 ∷ 0 ∷ 1 ∷ [])
    ++ CL (2 ∷ 0 ∷ 1 ∷ []) ++ SG (2 ∷ 15 ∷ 1 ∷ []) ++ SG (1 ∷ 15 ∷ 0 ∷ []) ++ CL (2 ∷ 0 ∷ 1 ∷ []) ++ SG (2 ∷ 255 ∷ 15 ∷ []) ++ SG (0 ∷ 0 ∷ 15 ∷ [])
    ++ SG (1 ∷ 15 ∷ 1 ∷ []) ++ QU

-- ---- All of it

pub record Demands : Type 0 where
  pub demand1 : Demand1
  pub demand2 : (s : List ℕ) (B : Book) → judge s ≡ book B → Demand2 s B
  pub demand3 : (s : List ℕ) (B : Book) → judge s ≡ book B → Demand3 s B
  pub page : (s : List ℕ) (B : Book) → judge s ≡ book B → PageOf s B
  pub longest : Answer longest_page
  pub attained : Attains 2 counter1 × Attains 4 counter2
  pub bench : EachHolds examples
