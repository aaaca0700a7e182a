-- `book::held::RuleBook::new` meets its contract. Assumes nothing.
use Rattle.book.proofs.Laws.Held.{mode_at_zeros}
use Rattle.book.proofs.held.RuleBook.new.Goals as goal

pub returns-clause-modes : goal.returns-clause-modes
returns-clause-modes c = mode_at_zeros 1408
