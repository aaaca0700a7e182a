-- What the runs of records leave beside their answers: what was read, and that the arrays lent hold it where they have room for all. Assumes nothing.
use Rattle.std.specs.Prelude.{◌≡◌, true, List, [], map, ℕ, suc, ◌+◌, ◌-◌, ◌*◌, ◌≤◌, length, take, drop, set, Result, Ok, Err}
use Rattle.std.specs.Borrow.{Bor}
use Rattle.std.proofs.lemmas.List.Edits.{sets}
use Rattle.masks.specs.Set.{Holds}
use Rattle.book.specs.Limits.{max_predicates, max_clauses, max_subgoals}
use Rattle.book.specs.Book.{Call, Mode, Clause, Book}
use Rattle.book.specs.Format as format
use Rattle.book.specs.Format.{leads, mark_at, turn, Bodied, Got, bad, many, predicate, mode, subgoal, query}
use Rattle.book.specs.Held.{call_in, clause_size, rules_size, clause_at, clauses_of, StoredClause, modes_size, modes_of, has_mode, book_in}
use Rattle.book.specs.declared.fault.FaultAt.{FaultAt}
use Rattle.book.specs.declared.mark.Phase.{Phase}
use Rattle.book.specs.declared.mark.Phase.TheVariants.{Predicates, Modes, Clauses}
use Rattle.book.specs.declared.mark.Turn.TheVariants.{Over}
use Rattle.records.specs.declared.fault.FaultFromEnd.{FaultFromEnd}
use Rattle.records.specs.Read.{value, rest, alone, Reads, stops}
use Rattle.reading.specs.declared.Reading.{Reading}
use Rattle.reading.specs.Judged.{Listed, Judges, ReadsInto}

-- ---- the end of a run

-- these two bytes end a run: where they stand, it is over
abbrev pub Ends : Phase → List ℕ → Type 0
Ends p m = (t : List ℕ) → leads m t ≡ true → turn p (mark_at t) ≡ Over

-- ---- predicates and modes

-- the predicates are read: how many there are, and their arities
pub record ReadsPredicates (s : List ℕ) (r : Result (ℕ × Bor (List ℕ)) FaultFromEnd) (after : List ℕ) : Type 0 where
  pub reads : Reads rest r (λ v. take (value v) after) (many Predicates predicate max_predicates [] s)
  pub listed : (v : ℕ × Bor (List ℕ)) → r ≡ Ok v → Listed (value v) after

-- the modes are read, and the set has their predicates
pub record ReadsModes (ar s : List ℕ) (r : Result (ℕ × Bor (List ℕ)) FaultFromEnd) (before after : List ℕ) : Type 0 where
  pub modes : List Mode
  pub reads : Reads rest r (λ v. modes) (many Modes (mode ar) (suc max_predicates) [] s)
  pub given : (v : ℕ × Bor (List ℕ)) → r ≡ Ok v → Holds (value v) (has_mode modes)
  pub stored : (v : ℕ × Bor (List ℕ)) → r ≡ Ok v → length before ≡ modes_size → modes_of after max_predicates ≡ modes

-- ---- subgoals

-- what subgoals come to in the run p, where its end is still to be judged
abbrev pub onward : {A : Type 0} → Phase → Result (Bor (List ℕ)) FaultFromEnd → A → Got A
onward p (Ok t) body = stops p body t.now
onward p (Err e) body = bad e.fault e.left

-- the subgoals of clause k are read into words, in whichever run they are, and stored with their number; what is left is the end of what there was
pub record ReadsBody (ar s : List ℕ) (k : ℕ) (r : Result (Bor (List ℕ)) FaultFromEnd) (before after : List ℕ) : Type 0 where
  pub words : List ℕ
  pub few : length words ≤ max_subgoals
  pub inside : (t : Bor (List ℕ)) → r ≡ Ok t → t.now ≡ drop (length s - length t.now) s
  pub reads : (p : Phase) → Bodied p → onward p r (map call_in words) ≡ many p (subgoal ar) max_subgoals [] s
  pub stored : (t : Bor (List ℕ)) → r ≡ Ok t → after ≡ set (sets before (k * clause_size + 2) words) (k * clause_size) (length words)

-- ---- clauses, and the query

-- a clause is read, and stored as clause k
pub record ReadsClause (ar s : List ℕ) (k : ℕ) (r : Result (Bor (List ℕ)) FaultFromEnd) (before after : List ℕ) : Type 0 where
  pub clause : Clause
  pub reads : Reads alone r (λ t. clause) (format.clause ar [] s)
  pub stored : (t : Bor (List ℕ)) → r ≡ Ok t → length before ≡ rules_size → StoredClause before after k clause

-- the clauses are read: how many there are
pub record ReadsClauses (ar s : List ℕ) (r : Result (ℕ × Bor (List ℕ)) FaultFromEnd) (before after : List ℕ) : Type 0 where
  pub clauses : List Clause
  pub reads : Reads rest r (λ v. clauses) (many Clauses (format.clause ar) max_clauses [] s)
  pub few : (v : ℕ × Bor (List ℕ)) → r ≡ Ok v → value v ≤ max_clauses
  pub stored : (v : ℕ × Bor (List ℕ)) → r ≡ Ok v → length before ≡ rules_size → clauses_of after (value v) ≡ clauses

-- a query is read, of the book or of a page, and stored as the clause behind all others
pub record ReadsQuery (p : Phase) (ar s : List ℕ) (r : Result (Bor (List ℕ)) FaultFromEnd) (before after : List ℕ) : Type 0 where
  pub goals : List Call
  pub reads : Reads alone r (λ t. goals) (query p ar s)
  pub stored : (t : Bor (List ℕ)) → r ≡ Ok t → length before ≡ rules_size
      → StoredClause before after max_clauses (record { head = (clause_at before max_clauses).head; body = goals })

-- ---- the book

-- arrays with room for the modes of all predicates, and for all clauses and the query
abbrev pub Roomy : List ℕ → List ℕ → Type 0
Roomy modes rules = (length modes ≡ modes_size) × (length rules ≡ rules_size)

-- what was read of the book b: as many predicates as it has, so many clauses, and the set has the predicates of its modes
pub record ReadingOf (ar : List ℕ) (b : Book) (r : Reading) : Type 0 where
  pub preds· : r.preds ≡ length ar
  pub few : r.clauses ≤ max_clauses
  pub arities· : b.arities ≡ ar
  pub given : Holds r.with_mode (has_mode b.modes)

-- what follows the predicates is read, up to some bytes: with them it is a book
pub record ReadsRules (ar s : List ℕ) (r : Result Reading FaultFromEnd) (modes rules modes· rules· : List ℕ) : Type 0 where
  pub book : Book
  pub end : List ℕ
  pub reads : Reads (λ v. end) r (λ v. book) (format.rules ar s)
  pub is : (v : Reading) → r ≡ Ok v → ReadingOf ar book v
  pub stored : (v : Reading) → r ≡ Ok v → Roomy modes rules → (preds : ℕ) (arities : List ℕ) → take preds arities ≡ ar
      → book_in preds arities modes· v.clauses rules· ≡ book

-- the bytes s are read, and where there was room the arrays hold the book
pub record ReadsBook (s : List ℕ) (r : Result Reading FaultAt) (modes rules arities· modes· rules· : List ℕ) : Type 0 where
  pub judges : Judges s r
  pub holds : Roomy modes rules → ReadsInto s r arities· modes· rules·
