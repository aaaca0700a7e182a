-- `reach::mark_calls` meets its contract. The loop's invariant: the calls at the first i places of the order are marked. Assumes nothing.
use mathlib.Core.Path.{◌≡◌}
use Prim.Native.Nat.{◌≤◌}
use lib.ListN.{length}
use Rattle.book.specs.Limits.{max_subgoals}
use Rattle.ordering.specs.Held.{places_of}
use Rattle.reach.proofs.Laws.Marking.{Marking}
use Rattle.reach.proofs.mark_calls.Given as goal

abbrev pub invariant-loop-i : goal.invariant-loop-i
invariant-loop-i l = record {
  long : length (places_of l.order) ≡ l.n;
  few : l.n ≤ max_subgoals;
  going : Marking l.clause.body l.order.places l.order.patterns l.initial.reached l.n l.i l.reached l.names;
}
