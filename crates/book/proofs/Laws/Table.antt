-- A table as the code holds it: what it has at each predicate. Assumes nothing.
use mathlib.Core.Path.{◌≡◌}
use mathlib.Core.List.{List, []}
use Prim.Native.Nat.{ℕ, ◌<◌}
use lib.ListN.{length}
use Rattle.book.specs.Table.{entry, entry_in, table_in}
use Rattle.masks.proofs.Laws.Lists.{length_values, get_or_values}

pub table_in_length : (table : List ℕ) (n : ℕ) → length (table_in table n) ≡ n
unfolding table_in
table_in_length table n = length_values (entry_in table) n

pub table_in_at : (table : List ℕ) (n p : ℕ) → p < n → entry (table_in table n) p ≡ entry_in table p
unfolding table_in
table_in_at table n p h = get_or_values (entry_in table) [] n p h
