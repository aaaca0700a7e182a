-- `writing::length::body_length` meets its contract. The loop's invariant: the total is the length of the first j subgoals. Assumes nothing.
use Prim.Native.Nat.{◌+◌}
use Rattle.masks.specs.Limits.{max_arity}
use Rattle.book.specs.Encode.{run, enc_subgoal}
use Rattle.writing.proofs.Laws.Chunks.{Measuring}
use Rattle.writing.proofs.Laws.Runs.{subgoals_to, subgoal_at}
use Rattle.writing.proofs.length.body_length.Given as goal

abbrev pub invariant-loop-j : goal.invariant-loop-j
invariant-loop-j l = Measuring l.j-end (subgoals_to l.clause.body) (subgoal_at l.clause.body) (run enc_subgoal l.clause.body) (3 + max_arity) l.j l.total
