-- `cases::same::is_left` meets its contract. Each turn takes a record off what is left of the full plan. Assumes nothing.
use lib.ListN.{length}
use Rattle.cases.proofs.same.is_left.Given as goal

abbrev pub decreases-loop-full : goal.decreases-loop-full
decreases-loop-full l = length l.full
