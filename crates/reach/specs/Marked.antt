-- Patterns marked in words, one for each predicate: a pattern is marked where its bit is set. Assumes nothing.
use Rattle.std.specs.Prelude.{◌≡◌, Bool, true, cond, ◌||◌, ◌↔◌, List, [], ℕ, eqb, get_or}
use Rattle.std.specs.declared.option.Option as std
use Rattle.std.specs.declared.option.Option.TheVariants.{Some, None}
use Rattle.std.proofs.Math.Option.{none, some}
use Rattle.masks.specs.Limits.{all_patterns}
use Rattle.masks.specs.Lists.{any, joined}
use Rattle.masks.specs.Set.{bit_at}
use Rattle.book.specs.Limits.{max_clauses}
use Rattle.book.specs.Book.{Call, Book}
use Rattle.book.specs.Held.{clause_at, clauses_of}
use Rattle.book.specs.Table.{Table}
use Rattle.ordering.specs.Adorn.{Bound, nothing, head_bound}
use Rattle.ordering.specs.Good.{first_good}
use Rattle.ordering.specs.Asks.{Asked, asks, called, patterns_in}
use Rattle.ordering.specs.Held.{or_none, places_of, patterns_of}
use Rattle.ordering.specs.declared.order.Order.{Order}
use Rattle.choices.specs.Choice.{clause, Choice, Reaches}

-- pattern a of predicate p is marked
abbrev pub marked_at : List ℕ → ℕ → ℕ → Bool
marked_at words p a = bit_at (get_or words p 0) a

-- the calls are marked besides what was, and the set has the predicates called
pub record Marked (before after : List ℕ) (names : ℕ) (calls : List Asked) : Type 0 where
  pub marks : (q b : ℕ) → marked_at after q b ≡ (marked_at before q b || called q b calls)
  pub names· : (q : ℕ) → bit_at names q ≡ any (λ (x : Asked). eqb x.pred q) calls

-- ---- calls in the orders that the code finds, none where it finds no order

unfoldable pub calls_by : Table → List Call → Bound → List Asked
calls_by T body b = asks body b (or_none (first_good T body b))

-- an order that is the body's first good one, with the pattern of each subgoal beside it
pub record Found (T : Table) (body : List Call) (b : Bound) (o : Order) : Type 0 where
  pub first : some (places_of o) ≡ first_good T body b
  pub beside : patterns_of o ≡ patterns_in body b (places_of o)

-- what is asked of an order: it is that, of some table and from something bound on; and what is given, whatever these are
abbrev pub SomeFound : List Call → Order → Type 0
SomeFound body o = (T : Table) × (b : Bound) × Found T body b o

abbrev pub Marks : List Call → Order → List ℕ → List ℕ → ℕ → Type 0
Marks body o before after names = (T : Table) (b : Bound) → Found T body b o → Marked before after names (calls_by T body b)

-- the same of the body's first good order where it has one, and of none where it has none
abbrev pub Given : Table → List Call → Bound → std.Option Order → Type 0
Given T body b None = none ≡ first_good T body b
Given T body b (Some o) = Found T body b o

abbrev pub SomeGiven : List Call → std.Option Order → Type 0
SomeGiven body o = (T : Table) × (b : Bound) × Given T body b o

abbrev pub MarksGiven : List Call → std.Option Order → List ℕ → List ℕ → ℕ → Type 0
MarksGiven body o before after names = (T : Table) (b : Bound) → Given T body b o → Marked before after names (calls_by T body b)

-- of clause k of an array, under a head pattern
abbrev pub clause_by : List ℕ → Table → ℕ → ℕ → List Asked
clause_by rules T k a = calls_by T (clause_at rules k).body (head_bound (clause_at rules k).head.args a)

-- of each clause of a set
unfoldable pub clauses_by : List ℕ → Table → ℕ → ℕ → List Asked
clauses_by rules T own a = joined (λ k. cond (bit_at own k) (clause_by rules T k a) []) max_clauses

-- under each pattern of a set
unfoldable pub patterns_by : List ℕ → Table → ℕ → ℕ → List Asked
patterns_by rules T own set = joined (λ a. cond (bit_at set a) (clauses_by rules T own a) []) all_patterns

-- their orders for every clause and pattern, to say what is reached by them
unfoldable pub taken : Table → Book → Choice
taken T B =
    record {
      for_query = or_none (first_good T B.query nothing);
      for_clause = λ k a. or_none (first_good T (clause B k).body (head_bound (clause B k).head.args a));
    }

-- ---- what is promised: the words mark just what that choice reaches, of whatever book has the clauses and the query that the array holds

abbrev pub ReachedIn : List ℕ → ℕ → Table → List ℕ → Type 0
ReachedIn rules clauses T words =
    (B : Book) → B.clauses ≡ clauses_of rules clauses → B.query ≡ (clause_at rules max_clauses).body
    → (p a : ℕ) → (marked_at words p a ≡ true) ↔ Reaches B (taken T B) p a
