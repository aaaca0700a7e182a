-- `records::arities::Arities::arity` meets its contract. Assumes nothing.
use Rattle.book.proofs.Laws.Bound.{arities_at}
use Rattle.records.proofs.arities.Arities.arity.Goals as goal

pub returns-clause-upper_bound : goal.returns-clause-upper_bound
returns-clause-upper_bound c = arities_at _ c.args.self.fit c.args.p
