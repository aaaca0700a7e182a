-- `records::field::read_args` meets its contract. The word has the arguments read so far. Assumes nothing.
use mathlib.Core.Path.{refl}
use native.Mathlib.Omega.{arith}
use Rattle.records.proofs.Laws.Reads.{passed}
use Rattle.records.proofs.Laws.Calls.{calling_start, calling_less, calling_bad, calling_next, calling_end}
use Rattle.records.proofs.field.read_args.Goals as goal

pub loop-i-init : goal.loop-i-init
loop-i-init c = calling_start _ _ _ _ _ (omega arith) (omega arith)

pub returns-in_err-x : goal.returns-in_err-x
returns-in_err-x c =
    rw (passed _ c.from_residual.ensures.1) (calling_bad _ _ _ _ _ c.loop-i.invariant c.loop-i-test.true c.read_byte.ensures.reads c.in_err-x.was)

pub with_byte-call-requires : goal.with_byte-call-requires
with_byte-call-requires c =
    let loop = c.loop-i in
    (let p = loop.invariant.place in omega arith, calling_less _ _ _ _ _ loop.invariant)

pub overflow_add-shift : goal.overflow_add-shift
overflow_add-shift c = let p = c.loop-i.invariant.place in omega arith

pub loop-i-preserved : goal.loop-i-preserved
loop-i-preserved c =
    calling_next _ _ _ _ _ c.loop-i.invariant c.loop-i-test.true c.read_byte.ensures.reads c.in_ok-x.was
    c.in_ok-x.ensures.byte c.with_byte-call.ensures

pub returns : goal.returns
returns c = calling_end _ _ _ _ _ c.loop-i.invariant refl c.signed-count.ensures c.requires c.loop-i-test.false
