-- `reading::read_only` meets its contract: what reading a book comes to does not depend on the room. Assumes nothing.
use Rattle.book.proofs.Laws.Held.{mode_at_zeros}
use Rattle.reading.proofs.read_only.Goals as goal

pub read_into-requires : goal.read_into-requires
read_into-requires c = mode_at_zeros 1

pub returns : goal.returns
returns c = c.read_into.ensures.judges
