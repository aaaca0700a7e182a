-- `cases::same::moved_down` meets its contract. The next number is at most the clause's own. Assumes nothing.
use Prim.Native.Nat.{◌≤◌}
use Rattle.cases.proofs.same.moved_down.Given as goal

abbrev pub invariant-loop-k : goal.invariant-loop-k
invariant-loop-k l = l.next ≤ l.k
