-- `reading::read_rules` meets its contract. Modes, clauses and query, one after the other; the query is stored where no clause stands. Assumes nothing.
use Rattle.records.proofs.Laws.Reads.{passed}
use Rattle.reading.proofs.Laws.Whole.{rules_unmoded, rules_unclaused, rules_asked, rules_unasked, rules_read}
use Rattle.reading.proofs.read_rules.Goals as goal

pub returns-in_err-with_mode : goal.returns-in_err-with_mode
returns-in_err-with_mode c = rw (passed _ c.from_residual.ensures.1) (rules_unmoded _ _ c.read_modes.ensures _ c.in_err-with_mode.was)

pub returns-in_err-n : goal.returns-in_err-n
returns-in_err-n c =
    rw (passed _ c.from_residual-in_err-n.ensures.1)
    (rules_unclaused _ _ c.read_modes.ensures _ c.in_ok-with_mode.was c.read_clauses.ensures c.in_err-n.was)

pub read_query-requires : goal.read_query-requires
read_query-requires c =
    rules_asked c.args.ar.list.now c.args.s.now c.read_modes.ensures _ c.in_ok-with_mode.was c.read_clauses.ensures c.in_ok-n.was

pub returns-in_err-read_query : goal.returns-in_err-read_query
returns-in_err-read_query c =
    rw (passed _ c.from_residual-in_err-read_query.ensures.1)
    (rules_unasked _ _ c.read_modes.ensures _ c.in_ok-with_mode.was c.read_clauses.ensures c.in_ok-n.was c.read_query.ensures c.in_err-read_query.was)

pub returns : goal.returns
returns c =
    rules_read _ _ c.read_modes.ensures _ c.in_ok-with_mode.was c.read_clauses.ensures c.in_ok-n.was c.read_query.ensures c.in_ok-read_query.was
    c.read_clauses.auto.rules c.predicates.ensures
