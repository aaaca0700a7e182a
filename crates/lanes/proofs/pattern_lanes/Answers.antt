-- `lanes::pattern_lanes` meets its contract. The loop's invariant: the words of the first i arguments are made, and the others are 0. Assumes
-- nothing.
use native.Mathlib.Omega.{arith}
use Rattle.book.specs.Held.{call_in}
use Rattle.lanes.proofs.Laws.Steps.{words_end}
use Rattle.lanes.proofs.pattern_lanes.Goals as goal

pub returns : goal.returns
returns c =
    let n = c.arguments-i-end.ensures.value in
    words_end c.args.vars.now (call_in c.args.s.word).args (omega arith) c.loop-i.invariant
