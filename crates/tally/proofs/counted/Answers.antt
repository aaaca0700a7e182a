-- `tally::counted` meets its contract: each branch is a case of `tallied`. Assumes nothing.
use native.Mathlib.Omega.{arith}
use Rattle.tally.proofs.Laws.Tallied.{one_accepted, one_turned_away}
use Rattle.tally.proofs.counted.Goals as goal

pub returns-then-accepted : goal.returns-then-accepted
returns-then-accepted c = one_accepted _ c.if-accepted.true (omega arith) (omega arith)

pub returns : goal.returns
returns c = one_turned_away _ c.if-accepted.false (omega arith) (omega arith)
