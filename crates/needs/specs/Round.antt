-- What is promised of a round, for whatever book the arrays hold. Assumes nothing.
use Rattle.std.specs.Prelude.{◌≡◌, Bool, true, false, ◌&&◌, List, ℕ, ◌≤◌, ◌<◌, length, get_or}
use Rattle.masks.specs.Limits.{all_patterns}
use Rattle.masks.specs.Set.{bit_at}
use Rattle.masks.specs.Constraint.{admits, is_written, written}
use Rattle.masks.specs.Patterns.{EachLane}
use Rattle.book.specs.Limits.{max_predicates, max_clauses}
use Rattle.book.specs.Book.{Book}
use Rattle.book.specs.Encode.{WellFormed}
use Rattle.book.specs.Held.{clause_at, clauses_of, modes_of}
use Rattle.book.specs.Table.{Table, entry, entry_in, table_in, Admitted}
use Rattle.book.specs.Sets.{Owns}
use Rattle.ordering.specs.Good.{good_clause}
use Rattle.tables.specs.Table.{declared, defined, step, rounds, final}
use Rattle.book.specs.declared.held.RuleBook.{RuleBook}
use Rattle.needs.specs.Sets.{each_in}
use Rattle.needs.specs.declared.Needs.{Needs}

-- ---- a round

-- the clauses of a set are all good under a head pattern
abbrev pub all_good : List ℕ → ℕ → List ℕ → ℕ → Bool
all_good rules own table a = each_in own (λ k. good_clause (table_in table max_predicates) (clause_at rules k) a) max_clauses

-- of the patterns of a set those under which they are; where that is all of them, it is the same word
pub record Stays (rules : List ℕ) (own : ℕ) (table : List ℕ) (had r : ℕ) : Type 0 where
  pub lanes : EachLane (λ a. bit_at r a ≡ (bit_at had a && all_good rules own table a))
  pub whole : EachLane (λ a. bit_at r a ≡ bit_at had a) → r ≡ had

-- a book's clauses, in the array that is lent, with each predicate's own
pub record Given (B : Book) (rules own : List ℕ) : Type 0 where
  pub well : WellFormed B
  pub clauses· : clauses_of rules (length B.clauses) ≡ B.clauses
  pub owns : Owns rules (length B.clauses) own

-- the predicates due have clauses; each has its constraint in written form, inside its MO, and a round takes patterns from it and gives none; it gives the
-- others what they have
pub record Due (B : Book) (T : Table) (due : ℕ) : Type 0 where
  pub defined· : (p : ℕ) → bit_at due p ≡ true → defined B.clauses p ≡ true
  pub written· : (p : ℕ) → p < length B.arities → is_written all_patterns (entry T p) ≡ true
  pub inside : (p a : ℕ) → admits (entry T p) a ≡ true → admits (declared B.modes p) a ≡ true
  pub falls : (p a : ℕ) → admits (entry (step B T) p) a ≡ true → admits (entry T p) a ≡ true
  pub others : (p : ℕ) → p < length B.arities → bit_at due p ≡ false → entry (step B T) p ≡ entry T p

-- what is admitted after a round; a predicate that is not marked has what it had, and one that is has other patterns
pub record Stepped (B : Book) (T : Table) (old new : List ℕ) (changed : ℕ) : Type 0 where
  pub admitted : (p : ℕ) → p < length B.arities → EachLane (λ a. bit_at (get_or new p 0) a ≡ admits (entry (step B T) p) a)
  pub unmarked : (p : ℕ) → p < max_predicates → bit_at changed p ≡ false → get_or new p 0 ≡ get_or old p 0
  pub marked : (p : ℕ) → bit_at changed p ≡ true → (p < length B.arities) × (EachLane (λ a. bit_at (get_or new p 0) a ≡ bit_at (get_or old p 0) a) → ⊥)

-- what a round asks: there is a book in the arrays, the patterns are those of its table, and the predicates due are told
abbrev pub Ready : List ℕ → List ℕ → List ℕ → List ℕ → ℕ → Type 0
Ready rules own table old due = (B : Book) × Given B rules own × Admitted table old × Due B (table_in table (length B.arities)) due

-- what it gives, whatever that book is
abbrev pub Rounds : List ℕ → List ℕ → List ℕ → List ℕ → ℕ → List ℕ → ℕ → Type 0
Rounds rules own table old due new changed =
    (B : Book) → Given B rules own → Due B (table_in table (length B.arities)) due → Stepped B (table_in table (length B.arities)) old new changed

-- two tables are the same, word by word, or they are not
abbrev pub AllSame : List ℕ → List ℕ → Type 0
AllSame old new = (p : ℕ) → p < max_predicates → get_or new p 0 ≡ get_or old p 0

pub record Compares (old new : List ℕ) (r : Bool) : Type 0 where
  pub same· : r ≡ true → AllSame old new
  pub other : r ≡ false → AllSame old new → ⊥

-- the predicates of a set have the masks of what the words admit, and the others what they had
pub record Renewed (table words : List ℕ) (changed : ℕ) (after : List ℕ) : Type 0 where
  pub those : (p : ℕ) → p < max_predicates → bit_at changed p ≡ true → entry_in after p ≡ written (bit_at (get_or words p 0)) all_patterns
  pub others : (p : ℕ) → p < max_predicates → bit_at changed p ≡ false → get_or after p 0 ≡ get_or table p 0

-- ---- all rounds

-- a book's predicates, modes and clauses, as they are held
pub record Held (B : Book) (preds : ℕ) (modes : List ℕ) (clauses : ℕ) (rules : List ℕ) : Type 0 where
  pub well : WellFormed B
  pub preds· : length B.arities ≡ preds
  pub modes· : B.modes ≡ modes_of modes max_predicates
  pub few : clauses ≤ max_clauses
  pub clauses· : B.clauses ≡ clauses_of rules clauses

abbrev pub Holding : Book → RuleBook → Type 0
Holding B b = Held B b.preds b.modes b.clauses b.rules

-- its final table, the patterns that it admits, and its rounds; and the clauses of each predicate
pub record Settled (B : Book) (clauses : ℕ) (rules own table words : List ℕ) (k : ℕ) : Type 0 where
  pub owns : Owns rules clauses own
  pub final· : table_in table (length B.arities) ≡ final B
  pub admitted : Admitted table words
  pub rounds· : k ≡ rounds B

-- what is asked: a book is held; and what is given, whatever that book is
abbrev pub SomeHeld : RuleBook → Type 0
SomeHeld b = (B : Book) × Holding B b

abbrev pub Settles : RuleBook → Needs → ℕ → Type 0
Settles b needs k = (B : Book) → Holding B b → Settled B b.clauses b.rules needs.own needs.table.masks needs.table.admits k
