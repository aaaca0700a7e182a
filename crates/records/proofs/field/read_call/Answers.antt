-- `records::field::read_call` meets its contract. A fault of the predicate is the call's; else its arity says how many arguments decide. Assumes nothing.
use Rattle.records.proofs.Laws.Calls.{call_none, call_read}
use Rattle.records.proofs.Laws.Reads.{predicate_known, passed}
use Rattle.records.proofs.field.read_call.Goals as goal

pub arity-requires : goal.arity-requires
arity-requires c = predicate_known c.args.ar.list.now c.args.s.now (rw c.predicates.ensures at c.read_byte.ensures.reads) c.in_ok-pred.was

pub returns-in_err-pred : goal.returns-in_err-pred
returns-in_err-pred c =
    rw (passed _ c.from_residual.ensures.1) (call_none _ _ _ (rw c.predicates.ensures at c.read_byte.ensures.reads) c.in_err-pred.was)

pub returns : goal.returns
returns c =
    call_read _ _ _ (rw c.predicates.ensures at c.read_byte.ensures.reads) c.in_ok-pred.was (rw c.arity.ensures.value at c.read_args.ensures)
