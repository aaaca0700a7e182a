-- `ordering::bound::bound_bit` meets its contract. The lowest bit of a word moved down by n is its bit n. Assumes nothing.
use Prim.Native.Nat.{◌%◌}
use Rattle.ordering.proofs.Laws.Bound.{shift_bit}
use Rattle.ordering.proofs.bound.bound_bit.Goals as goal

pub returns-clause-value : goal.returns-clause-value
returns-clause-value c = shift_bit c.args.bound (c.args.arg % 32)
