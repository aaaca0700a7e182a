-- `reach::mark_given` meets its contract: with an order it is what `mark_calls` does, and without one there are no calls. Assumes nothing.
use Rattle.reach.proofs.Laws.Marked.{none_marks}
use Rattle.reach.proofs.mark_given.Goals as goal

pub returns-in-None : goal.returns-in-None
returns-in-None c T b given = none_marks T c.args.clause.now.body b c.args.reached.now (rw c.in-None.is at given)
