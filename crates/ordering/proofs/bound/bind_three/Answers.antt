-- `ordering::bound::bind_three` meets its contract. The five lowest bits of a word moved down by a byte are those of its next byte. Assumes nothing.
use Rattle.ordering.proofs.Laws.Bound.{with_three}
use Rattle.ordering.proofs.bound.bind_three.Goals as goal

pub returns : goal.returns
returns c =
    let s = c.args in
    with_three s.bound s.args c.power.ensures c.power-2.ensures c.power-3.ensures
