-- How a book and its final table are lent to what answers a page, and what is promised of the parts. Assumes nothing.
use Rattle.std.specs.Prelude.{◌≡◌, List, map, ℕ, ◌-◌, length, take, Result, Ok, Err}
use Rattle.std.specs.Borrow.{Bor}
use Rattle.masks.specs.declared.reply.Reply.{Reply}
use Rattle.book.specs.Limits.{max_predicates, max_clauses}
use Rattle.book.specs.Book.{Call, Book}
use Rattle.book.specs.Format.{query}
use Rattle.book.specs.Encode.{WellFormed}
use Rattle.book.specs.Held.{clause_at}
use Rattle.book.specs.Table.{Table, table_in, Admitted}
use Rattle.book.specs.declared.held.RuleBook.{RuleBook}
use Rattle.book.specs.declared.mark.Phase.TheVariants.{PageQuery}
use Rattle.records.specs.declared.fault.FaultFromEnd.{FaultFromEnd}
use Rattle.records.specs.Read.{alone, Reads}
use Rattle.tables.specs.Table.{final}
use Rattle.tally.specs.declared.Tally.{Tally}
use Rattle.tally.specs.Tallied.{tally_from, zeroes, Tallies}
use Rattle.page.specs.declared.Answered.{Answered}
use Rattle.paging.specs.Run.{faulty, queries, judge_run}
use Rattle.paging.specs.Page.{accepts, answers, paged, verdicts_of}

-- ---- what is lent

-- a book's arities as they are held, and a table of the patterns that its final table admits
pub record Lent (B : Book) (b : RuleBook) (T : Table) : Type 0 where
  pub well : WellFormed B
  pub preds· : length B.arities ≡ b.preds
  pub arities· : B.arities ≡ take b.preds b.arities
  pub masks : List ℕ
  pub final· : table_in masks b.preds ≡ final B
  pub words : List ℕ
  pub admitted : Admitted masks words
  pub table· : T ≡ table_in words max_predicates

-- what is asked: there is such a book; and what is given, whatever that book is
abbrev pub SomeLent : RuleBook → Table → Type 0
SomeLent b T = (B : Book) × Lent B b T

abbrev pub Gives : RuleBook → Table → List ℕ → List ℕ → Tally → Reply → List ℕ → Tally → Type 0
Gives b T run out old r after t =
    (B : Book) → Lent B b T → Tallies (paged B (judge_run B.arities run)) (verdicts_of B (judge_run B.arities run)) out old r after t

-- ---- the parts

-- a query of a run is read, and stored as the clause behind all others
pub record QueryRead (ar s : List ℕ) (r : Result (Bor (List ℕ)) FaultFromEnd) (after : List ℕ) : Type 0 where
  pub goals : List Call
  pub reads : Reads alone r (λ t. goals) (query PageQuery ar s)
  pub stored : (t : Bor (List ℕ)) → r ≡ Ok t → (clause_at after max_clauses).body ≡ goals

-- the answers to queries stand at the front of an image, and are counted
pub record Kept (T : Table) (qs : List (List Call)) (image : List ℕ) (size : ℕ) (t : Tally) : Type 0 where
  pub long : size ≡ length (answers T qs)
  pub bytes : take size image ≡ answers T qs
  pub counted : t ≡ tally_from zeroes (map (accepts T) qs)

-- a run's first fault, or its queries with their answers
abbrev pub CameTo : List ℕ → List ℕ → Table → Result Answered FaultFromEnd → List ℕ → Type 0
CameTo ar run T (Err e) image = judge_run ar run ≡ faulty e.fault (length run - e.left)
CameTo ar run T (Ok a) image = (qs : List (List Call)) × (judge_run ar run ≡ queries qs) × Kept T qs image a.size a.tally

pub record RunAnswered (ar run : List ℕ) (T : Table) (r : Result Answered FaultFromEnd) (image : List ℕ) : Type 0 where
  pub comes : CameTo ar run T r image
