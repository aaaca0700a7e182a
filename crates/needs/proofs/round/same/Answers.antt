-- `needs::round::same` meets its contract. The loop's invariant: nothing differs exactly where the first p words are the same. Assumes nothing.
use native.Mathlib.Omega.{arith}
use Rattle.needs.proofs.Laws.Rounding.{comparing_start, comparing_next, comparing_end}
use Rattle.needs.proofs.round.same.Goals as goal

pub loop-p-init : goal.loop-p-init
loop-p-init c = comparing_start c.args.old.now c.args.new.now

pub loop-p-preserved : goal.loop-p-preserved
loop-p-preserved c = comparing_next c.args.old.now c.args.new.now _ _ c.loop-p.invariant

pub returns : goal.returns
returns c = comparing_end c.args.old.now c.args.new.now _ _ (omega arith) c.loop-p.invariant
