-- `records::field::read_mode` meets its contract. The predicate, then its masks, then whether the predicate rises. Assumes nothing.
use native.Mathlib.Omega.{arith}
use Rattle.records.proofs.Laws.Stores.{mode_none, mode_unlaid, mode_clash, mode_laid}
use Rattle.records.proofs.Laws.Reads.{predicate_known, passed}
use Rattle.records.proofs.field.read_mode.Goals as goal

pub arity-requires : goal.arity-requires
arity-requires c = predicate_known c.args.ar.list.now c.args.s.now (rw c.predicates.ensures at c.read_byte.ensures.reads) c.in_ok-pred.was

pub returns-in_err-pred : goal.returns-in_err-pred
returns-in_err-pred c =
    rw (passed _ c.from_residual.ensures.1) (mode_none _ _ _ (rw c.predicates.ensures at c.read_byte.ensures.reads) _ c.in_err-pred.was)

pub returns-in_err-end : goal.returns-in_err-end
returns-in_err-end c =
    rw (passed _ c.from_residual-in_err-end.ensures.1)
    (mode_unlaid _ _ _ (rw c.predicates.ensures at c.read_byte.ensures.reads) _ c.in_ok-pred.was (rw c.arity.ensures.value at c.patterns.ensures)
    c.read_masks.ensures c.in_err-end.was)

pub returns-then-pred-low : goal.returns-then-pred-low
returns-then-pred-low c =
    rw c.wrong.ensures
    (mode_clash _ _ _ (rw c.predicates.ensures at c.read_byte.ensures.reads) _ c.in_ok-pred.was (rw c.arity.ensures.value at c.patterns.ensures)
    c.read_masks.ensures c.in_ok-end.was c.if-pred-low.true)

pub returns : goal.returns
returns c =
    let few = c.args.ar.few in
    mode_laid _ _ _ (rw c.predicates.ensures at c.read_byte.ensures.reads) _ c.in_ok-pred.was (rw c.arity.ensures.value at c.patterns.ensures)
    c.read_masks.ensures c.in_ok-end.was (omega arith) c.if-pred-low.false
