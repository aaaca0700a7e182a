-- The run of a page judged from the left: document 02, W1, "a run of `QU` records with their subgoals", which is "judged from the left by the book's rules".
-- Every definition computes. Assumes nothing.
use Rattle.std.specs.Prelude.{◌≡◌, Bool, true, ◌&&◌, List, [], ◌++◌, ℕ, ◌-◌, leb, length}
use Rattle.masks.specs.Lists.{all}
use Rattle.book.specs.Limits.{max_subgoals, max_queries}
use Rattle.book.specs.Book.{Call}
use Rattle.book.specs.Format.{Got, bad, got, many, query}
use Rattle.book.specs.Encode.{QU, run, enc_subgoal, call_fits}
use Rattle.book.specs.declared.fault.Fault.{Fault}
use Rattle.book.specs.declared.mark.Phase.TheVariants.{Queries, PageQuery}

-- "with 5 for a 257th query": for a book with these arities
unfoldable pub read_run : List ℕ → List ℕ → Got (List (List Call))
read_run ar s = many Queries (λ before t. query PageQuery ar t) max_queries [] s

-- a fault and its place, or the queries
pub data JudgedRun : Type 0 where
  faulty : Fault → ℕ → JudgedRun
  queries : List (List Call) → JudgedRun

-- "places counted in the run"
abbrev pub judged_run : List ℕ → Got (List (List Call)) → JudgedRun
judged_run s (bad f k) = faulty f (length s - k)
judged_run s (got qs t) = queries qs

unfoldable pub judge_run : List ℕ → List ℕ → JudgedRun
judge_run ar s = judged_run s (read_run ar s)

-- ---- the bytes of a run, and the runs that have bytes

abbrev pub enc_qu : List Call → List ℕ
enc_qu q = QU ++ run enc_subgoal q

-- at most 8 subgoals, each of the book
abbrev pub query_fits : List ℕ → List Call → Bool
query_fits ar q = leb (length q) max_subgoals && all (call_fits ar) q

pub record FitRun (ar : List ℕ) (qs : List (List Call)) : Type 0 where
  pub few : leb (length qs) max_queries ≡ true
  pub each : all (query_fits ar) qs ≡ true
