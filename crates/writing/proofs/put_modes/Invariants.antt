-- `writing::put_modes` meets its contract. The loop goes over the predicates that have `MO`; its invariant: the `MO` of those passed are written. Assumes
-- nothing.
use lib.ListN.{length}
use Rattle.masks.specs.Set.{members}
use Rattle.masks.proofs.Laws.Loops.{Passed}
use Rattle.book.specs.Limits.{max_predicates}
use Rattle.writing.proofs.Laws.Chunks.{Writing}
use Rattle.writing.proofs.Laws.Runs.{modes_to, members_to, member_at}
use Rattle.writing.proofs.put_modes.Given as goal

abbrev pub invariant-loop-p : goal.invariant-loop-p
invariant-loop-p l = record {
  going : Passed l.given l.yielded (members l.p-iterator.left);
  wrote : Writing (length (members l.given)) (members_to l.modes l.given) (member_at l.modes l.given) (modes_to l.modes max_predicates) l.initial.out l.at (length l.yielded) l.out l.q;
}
