-- `closing::close_modes` meets its contract. The loop goes over the predicates chosen; its invariant: those passed have the table's constraint as
-- `MO`, and the others are as they were. Assumes nothing.
use native.Mathlib.Omega.{arith}
use Rattle.closing.proofs.Laws.Moding.{moding_start, moding_low, moding_member, moding_next, moding_end}
use Rattle.closing.proofs.close_modes.Goals as goal

pub loop-p-init : goal.loop-p-init
loop-p-init c =
    rw (c.into_iter-p-iterator.ensures.into_iter_gives, c.of-p-items.ensures)
    (moding_start c.args.set c.args.table.now c.args.modes.now)

pub bounds-table-p : goal.bounds-table-p
bounds-table-p c = let l = moding_low c.loop-p.invariant c.in-Some.ensures.steps in omega arith

pub put_mode-requires : goal.put_mode-requires
put_mode-requires c =
    let m = c.loop-p.invariant in
    let e = c.in-Some.ensures.steps in
    (moding_low m e, c.requires _ (moding_low m e) (moding_member m e))

pub loop-p-preserved : goal.loop-p-preserved
loop-p-preserved c = moding_next c.loop-p.invariant c.in-Some.ensures.steps c.put_mode.ensures

pub returns : goal.returns
returns c = moding_end c.loop-p.invariant c.in-None.ensures.steps.0
