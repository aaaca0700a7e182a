-- `ordering::bound::three_bits` meets its contract. The five lowest bits of a word moved down by a byte are those of its next byte. Assumes nothing.
use Rattle.ordering.proofs.Laws.Bound.{marks_three}
use Rattle.ordering.proofs.bound.three_bits.Goals as goal

pub returns-clause-value : goal.returns-clause-value
returns-clause-value c =
    let s = c.args in
    marks_three s.bound s.args _ _ _ c.bound_bit.ensures.value c.bound_bit-2.ensures.value c.bound_bit-3.ensures.value
