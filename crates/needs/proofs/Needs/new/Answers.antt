-- `needs::Needs::new` meets its contract. Assumes nothing.
use Rattle.book.proofs.Laws.Sets.{cleared_zeros}
use Rattle.needs.proofs.Needs.new.Goals as goal

pub returns-clause-own : goal.returns-clause-own
returns-clause-own c = cleared_zeros
