-- `masks::constraint::put_masks` meets its contract. The loop goes over the members of the set; its invariant: those passed stand in the output. Assumes
-- nothing.
use Rattle.std.proofs.Common.{◌≡◌, ◌+◌, length}
use Rattle.std.proofs.lemmas.List.Edits.{sets}
use Rattle.masks.specs.Set.{members}
use Rattle.masks.proofs.Laws.Loops.{Passed}
use Rattle.masks.proofs.constraint.put_masks.Given as goal

abbrev pub invariant-loop-m : goal.invariant-loop-m
invariant-loop-m l = record {
  going : Passed l.set l.yielded (members l.m-iterator.left);
  place : l.p ≡ l.at + length l.yielded;
  put : l.out ≡ sets l.initial.out l.at l.yielded;
}
