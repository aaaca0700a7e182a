-- `records::field::read_bytes` meets its contract. Each turn keeps what is still to be read equal to the whole. Assumes nothing.
use mathlib.Core.Path.{refl}
use Rattle.records.proofs.Laws.Stores.{laying_start, laying_bad, laying_next, laying_end}
use Rattle.records.proofs.Laws.Reads.{passed}
use Rattle.records.proofs.field.read_bytes.Goals as goal

pub loop-i-init : goal.loop-i-init
loop-i-init c = laying_start _ _ _ _ _

pub returns-in_err-x : goal.returns-in_err-x
returns-in_err-x c =
    rw (passed _ c.from_residual.ensures.1) (laying_bad _ _ _ _ _ c.loop-i.invariant c.loop-i-test.true c.read_byte.ensures.reads c.in_err-x.was)

pub loop-i-preserved : goal.loop-i-preserved
loop-i-preserved c = laying_next _ _ _ _ _ c.loop-i.invariant c.loop-i-test.true c.read_byte.ensures.reads c.in_ok-x.was c.put.ensures

pub returns : goal.returns
returns c = laying_end _ _ _ _ _ c.loop-i.invariant c.loop-i-test.false refl
