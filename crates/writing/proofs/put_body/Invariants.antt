-- `writing::put_body` meets its contract. The loop's invariant: the first j subgoals are written. Assumes nothing.
use Rattle.book.specs.Encode.{run, enc_subgoal}
use Rattle.writing.proofs.Laws.Chunks.{Writing}
use Rattle.writing.proofs.Laws.Runs.{subgoals_to, subgoal_at}
use Rattle.writing.proofs.put_body.Given as goal

abbrev pub invariant-loop-j : goal.invariant-loop-j
invariant-loop-j l = Writing l.j-end (subgoals_to l.clause.body) (subgoal_at l.clause.body) (run enc_subgoal l.clause.body) l.initial.out l.at l.j l.out l.p
