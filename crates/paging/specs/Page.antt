-- What a page comes to: document 02, W1, "All the queries of a page in one go". Every definition computes. Assumes nothing.
use Rattle.std.specs.Prelude.{Bool, List, [], ◌∷◌, ◌++◌, map, ℕ}
use Rattle.std.proofs.Math.Option.{Option, none, some}
use Rattle.masks.specs.Outcome.{Outcome, refused, done}
use Rattle.book.specs.Book.{Call, Book}
use Rattle.book.specs.Format.{number, Judged, fault, book, judge}
use Rattle.book.specs.Answer.{on_book}
use Rattle.book.specs.Encode.{run}
use Rattle.book.specs.Table.{Table}
use Rattle.ordering.specs.Adorn.{nothing}
use Rattle.ordering.specs.Good.{first_good, is_some}
use Rattle.tables.specs.Table.{final}
use Rattle.choices.specs.Plan.{enc_query}
use Rattle.paging.specs.Run.{JudgedRun, faulty, queries, judge_run}

-- "For each comes a byte 0 or 7 and, after 0, its `QO` record"
abbrev pub answered : Option (List ℕ) → List ℕ
answered none = 7 ∷ []
answered (some σ) = 0 ∷ enc_query σ

-- a query's, by its first good order against a table
unfoldable pub answer : Table → List Call → List ℕ
answer T q = answered (first_good T q nothing)

unfoldable pub accepts : Table → List Call → Bool
accepts T q = is_some (first_good T q nothing)

-- "the reply to one query depends on the book and that query only": those of queries, one after the other
unfoldable pub answers : Table → List (List Call) → List ℕ
answers T qs = run (answer T) qs

-- "as the plan would give with that query in place of the book's own": an answer beside that plan, 7 where it is refused with 7, else 0 and its first record
pub data AsPlan : Outcome → List ℕ → Type 0 where
  away : AsPlan (refused 7 0) (7 ∷ [])
  first : (σ rows : List ℕ) → AsPlan (done 0 (enc_query σ ++ rows)) (0 ∷ enc_query σ)

-- "then the run is judged from the left": what a page of a valid book comes to
abbrev pub paged : Book → JudgedRun → Outcome
paged B (faulty f at) = refused (number f) at
paged B (queries qs) = done 0 (answers (final B) qs)

-- "Refusals: the book's first": what a page comes to, of the bytes of a book and of a run
unfoldable pub paging : List ℕ → List ℕ → Outcome
paging s r = on_book (λ B. paged B (judge_run B.arities r)) s

-- ---- the verdicts, for the tally: of each query of a page that is not refused, whether it is accepted

abbrev pub verdicts_of : Book → JudgedRun → List Bool
verdicts_of B (faulty f at) = []
verdicts_of B (queries qs) = map (accepts (final B)) qs

abbrev pub verdicts_on : Judged → List ℕ → List Bool
verdicts_on (fault f at) r = []
verdicts_on (book B) r = verdicts_of B (judge_run B.arities r)

unfoldable pub verdicts : List ℕ → List ℕ → List Bool
verdicts s r = verdicts_on (judge s) r
