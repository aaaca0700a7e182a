-- `needs::settle` meets its contract. The loop's invariant, for whatever book is lent: the table is table k of the book, none before it was settled, the
-- patterns are those that it admits, and the predicates due are told. While a round changes something, k is less than the rounds. Assumes nothing.
use Prim.Native.Nat.{◌-◌}
use Rattle.book.specs.Book.{Book}
use Rattle.needs.specs.Round.{Holding}
use Rattle.needs.proofs.Laws.AtRound.{AtRound}
use Rattle.needs.proofs.settle.Given as goal

abbrev pub invariant-rounds : goal.invariant-rounds
invariant-rounds l =
    (B : Book) → Holding B l.book → AtRound B l.k l.table.masks l.table.admits l.due

abbrev pub decreases-rounds : goal.decreases-rounds
decreases-rounds l = 4096 - l.k
