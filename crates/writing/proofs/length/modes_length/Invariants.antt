-- `writing::length::modes_length` meets its contract. The loop goes over the predicates that have `MO`; its invariant: the total is the length of the `MO`
-- of those passed. Assumes nothing.
use Prim.Native.Nat.{◌+◌}
use lib.ListN.{length}
use Rattle.masks.specs.Limits.{max_masks}
use Rattle.masks.specs.Set.{members}
use Rattle.masks.proofs.Laws.Loops.{Passed}
use Rattle.book.specs.Limits.{max_predicates}
use Rattle.writing.proofs.Laws.Chunks.{Measuring}
use Rattle.writing.proofs.Laws.Runs.{modes_to, members_to, member_at}
use Rattle.writing.proofs.length.modes_length.Given as goal

abbrev pub invariant-loop-p : goal.invariant-loop-p
invariant-loop-p l = record {
  going : Passed l.given l.yielded (members l.p-iterator.left);
  measured : Measuring (length (members l.given)) (members_to l.modes l.given) (member_at l.modes l.given) (modes_to l.modes max_predicates) (4 + max_masks) (length l.yielded) l.total;
}
