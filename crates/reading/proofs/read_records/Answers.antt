-- `reading::read_records` meets its contract. The predicates have a fault, which is the book's, or what follows them decides. Assumes nothing.
use Rattle.records.proofs.Laws.Reads.{passed}
use Rattle.reading.proofs.Laws.Whole.{whole_arities}
use Rattle.reading.proofs.Laws.Judged.{reads_none, reads_book}
use Rattle.reading.proofs.read_records.Goals as goal

pub returns-in_err-n : goal.returns-in_err-n
returns-in_err-n c = rw (passed _ c.from_residual.ensures.1) (reads_none c.read_predicates.ensures _ _ c.in_err-n.was _ _)

pub invariant_of-ar : goal.invariant_of-ar
invariant_of-ar c =
    let w = whole_arities c.args.s.now c.read_predicates.ensures c.in_ok-n.was in record { few = w.0; fit = w.1 }

pub returns : goal.returns
returns c = reads_book c.read_predicates.ensures _ _ c.in_ok-n.was c.read_rules.ensures
