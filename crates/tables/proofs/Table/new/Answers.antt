-- `tables::Table::new` meets its contract. Assumes nothing.
use Rattle.book.proofs.Laws.Sets.{cleared_zeros}
use Rattle.tables.proofs.Table.new.Goals as goal

pub returns : goal.returns
returns c = record { masks = cleared_zeros; admits = cleared_zeros }
