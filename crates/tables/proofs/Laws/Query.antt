-- The analysis does not look at the query: the book with another one in its place has the same tables. Assumes nothing.
use mathlib.Core.Path.{◌≡◌, refl, ap, ap₂, ◌∙◌}
use mathlib.Core.Bool.{Bool, cond}
use mathlib.Core.List.{List}
use Prim.Native.Nat.{ℕ, zero, suc}
use Rattle.book.specs.Book.{Call, Book, with_query}
use Rattle.tables.specs.Table.{start, gets, next, step, table, same_table, settled, rounds_bound, seek, rounds, final}

module _ (B : Book) (q : List Call) where
  table_query : (k : ℕ) → table (with_query B q) k ≡ table B k
  unfolding table start step gets next
  table_query zero = refl
  table_query (suc k) = ap (step B) (table_query k)

  seek_query : (d k : ℕ) → seek (with_query B q) k d ≡ seek B k d
  unfolding seek settled
  seek_query zero k = refl
  seek_query (suc d) k = ap₂ (λ (b : Bool) (r : ℕ). cond b k r) (ap₂ same_table (table_query (suc k)) (table_query k)) (seek_query d (suc k))

  rounds_query : rounds (with_query B q) ≡ rounds B
  unfolding rounds rounds_bound
  rounds_query = seek_query (rounds_bound B) 0

  pub final_query : final (with_query B q) ≡ final B
  unfolding final
  final_query = table_query (rounds (with_query B q)) ∙ ap (table B) rounds_query
