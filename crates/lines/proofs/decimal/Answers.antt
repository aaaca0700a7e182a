-- `lines::decimal` meets its contract. The loop's invariant: the number is that of the digits passed, or the most where that is less. Assumes nothing.
use mathlib.Core.Path.{◌∙◌}
use Rattle.lines.proofs.Laws.Hex.{decimal_next}
use Rattle.lines.proofs.decimal.Goals as goal

pub loop-x-preserved : goal.loop-x-preserved
loop-x-preserved c = decimal_next _ _ _ c.loop-x.invariant c.loop-x-test.true (c.from.ensures ∙ c.digit.ensures.value) c.min-n.ensures
