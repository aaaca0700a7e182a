-- How a book and its final table are lent, and what is promised of the parts of a plan. Assumes nothing.
use Rattle.std.specs.Prelude.{◌≡◌, cond, List, [], ◌++◌, ℕ, ◌+◌, ◌*◌, ◌≤◌, ◌<◌, length, get_or}
use Rattle.masks.specs.Limits.{all_patterns}
use Rattle.masks.specs.Lists.{joined}
use Rattle.masks.specs.Outcome.{Answers}
use Rattle.masks.specs.Set.{bit_at, members}
use Rattle.masks.specs.declared.reply.Reply.{Reply}
use Rattle.book.specs.Limits.{max_predicates, max_clauses}
use Rattle.book.specs.Book.{Book}
use Rattle.book.specs.Encode.{WellFormed}
use Rattle.book.specs.Held.{clause_at, clauses_of}
use Rattle.book.specs.Table.{Table, table_in, Admitted}
use Rattle.book.specs.Sets.{Owns, Callable}
use Rattle.book.specs.declared.held.RuleBook.{RuleBook}
use Rattle.ordering.specs.Adorn.{head_bound}
use Rattle.ordering.specs.Good.{first_good}
use Rattle.ordering.specs.Held.{or_none}
use Rattle.tables.specs.Table.{sum_below, final}
use Rattle.needs.specs.declared.Needs.{Needs}
use Rattle.choices.specs.Plan.{Row, enc_query, enc_row, planned}

-- ---- what is lent

-- a book's predicates, clauses and query in the array, each predicate's own clauses, and the patterns that its final table admits
pub record Lent (B : Book) (preds clauses : ℕ) (rules own table : List ℕ) : Type 0 where
  pub well : WellFormed B
  pub preds· : length B.arities ≡ preds
  pub few : clauses ≤ max_clauses
  pub clauses· : B.clauses ≡ clauses_of rules clauses
  pub query· : B.query ≡ (clause_at rules max_clauses).body
  pub owns : Owns rules clauses own
  pub masks : List ℕ
  pub final· : table_in masks preds ≡ final B
  pub admitted : Admitted masks table

abbrev pub Lending : Book → RuleBook → Needs → Type 0
Lending B b needs = Lent B b.preds b.clauses b.rules needs.own needs.table.admits

-- what is asked: there is such a book; and what is given, whatever that book is
abbrev pub SomeLent : RuleBook → Needs → Type 0
SomeLent b needs = (B : Book) × Lending B b needs

abbrev pub Gives : RuleBook → Needs → List ℕ → Reply → List ℕ → Type 0
Gives b needs out r after = (B : Book) → Lending B b needs → Answers (planned B) out r after

-- each predicate's clauses call predicates that there can be
abbrev pub EachCallable : List ℕ → List ℕ → Type 0
EachCallable rules own = (p : ℕ) → p < max_predicates → Callable rules (get_or own p 0)

-- ---- rows, of clauses in the array

-- of clause k under a head pattern, in the order that the code finds
unfoldable pub row_by : List ℕ → Table → ℕ → ℕ → Row
row_by rules T k a =
    record {
      clause· = k;
      pattern = a;
      places = or_none (first_good T (clause_at rules k).body (head_bound (clause_at rules k).head.args a));
    }

-- of each clause of a set
unfoldable pub clause_rows : List ℕ → Table → ℕ → ℕ → List ℕ
clause_rows rules T own a = joined (λ k. cond (bit_at own k) (enc_row (row_by rules T k a)) []) max_clauses

-- under each pattern of a set
unfoldable pub pattern_rows : List ℕ → Table → ℕ → ℕ → List ℕ
pattern_rows rules T own set = joined (λ a. cond (bit_at set a) (clause_rows rules T own a) []) all_patterns

-- the plan of the first preds predicates, with each one's clauses and reached patterns in words, and the query's order given
unfoldable pub plan_bytes : List ℕ → ℕ → List ℕ → Table → List ℕ → List ℕ → List ℕ
plan_bytes σ preds rules T own words = enc_query σ ++ joined (λ p. pattern_rows rules T (get_or own p 0) (get_or words p 0)) preds

-- ---- lengths, where each order has a place for each subgoal

-- of a row of each clause of a set
unfoldable pub rows_length : List ℕ → ℕ → ℕ
rows_length rules own = sum_below (λ k. cond (bit_at own k) (5 + length (clause_at rules k).body) 0) max_clauses

-- of the plan: those of each predicate, as often as it has patterns
unfoldable pub plan_length : ℕ → List ℕ → List ℕ → List ℕ → ℕ
plan_length preds rules own words =
    3 + length (clause_at rules max_clauses).body + sum_below (λ p. rows_length rules (get_or own p 0) * length (members (get_or words p 0))) preds
