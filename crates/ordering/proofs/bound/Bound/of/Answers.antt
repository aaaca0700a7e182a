-- `ordering::bound::Bound::of` meets its contract. The bit that is added is that of literals, and of no variable. Assumes nothing.
use mathlib.Core.Path.{refl}
use borrow.Author.Rules.{rules}
use Rattle.masks.specs.Set.{bit_at}
use Rattle.ordering.proofs.Laws.Bound.{start_bound, start_marked}
use Rattle.ordering.proofs.bound.Bound.of.Goals as goal

pub invariant_of-result : goal.invariant_of-result
unfolding bit_at
invariant_of-result c = start_marked _ refl c.args.bound (search rules)

pub returns : goal.returns
unfolding bit_at
returns c = start_bound _ refl c.args.bound
